-- How a day's bytes are read.
use Rattle.std.proofs.Common.{◌≡◌, ℕ, List, [], ◌∷◌, length, get_or, ap, sym, ◌∙◌, arith}
use Rattle.std.proofs.NetLemmas.Arrays.{eight_items}
use Rattle.std.specs.Int.{w64, from_be_bytes}
use Rattle.capi.specs.Days.{number_of}

-- the library's reading of eight bytes is by place value
pub read_number : (bytes : List ℕ) → length bytes ≡ 8 → from_be_bytes w64 bytes ≡ number_of bytes
read_number bytes n = by_place (get_or bytes 0 0) (get_or bytes 1 0) (get_or bytes 2 0) (get_or bytes 3 0) (get_or bytes 4 0) (get_or bytes 5 0) (get_or bytes 6 0) (get_or bytes 7 0) ∙ sym (ap number_of (eight_items bytes n))
  where
    by_place : (a b c d e f g h : ℕ) → from_be_bytes w64 (a ∷ b ∷ c ∷ d ∷ e ∷ f ∷ g ∷ h ∷ []) ≡ number_of (a ∷ b ∷ c ∷ d ∷ e ∷ f ∷ g ∷ h ∷ [])
    by_place a b c d e f g h = omega arith
