-- A number that is capped while its digits are read is the number, capped.
use Rattle.std.proofs.Common.{◌≡◌, ℕ, ◌+◌, ◌-◌, ◌*◌, ◌^◌, ◌<◌, ◌≤◌, Bool, true, false, cond, List, [], ◌∷◌, length, get_or, drop, Some, None, Option, sym, refl, ap, ◌∙◌, arith}
use Rattle.std.specs.Option.{option_map}
use Rattle.std.specs.Char.{is_ascii_digit}
use Rattle.std.proofs.lemmas.List.{at_drop_more, at_drop_all}
use Rattle.text.specs.Numbers.{digits_on, capped}

one_digit : (m d : ℕ) → capped (capped m * 10 + d) ≡ capped (m * 10 + d)
one_digit m d = omega arith

pub capped_on : (m : ℕ) (bs : List ℕ) → option_map capped (digits_on (capped m) bs) ≡ option_map capped (digits_on m bs)
capped_on m [] = ap Some (omega arith)
capped_on m (b ∷ bs) = go (is_ascii_digit b) (sym (capped_on (capped m * 10 + (b - 48)) bs) ∙ ap (λ n. option_map capped (digits_on n bs)) (one_digit m (b - 48)) ∙ capped_on (m * 10 + (b - 48)) bs)
  where
    go : (t : Bool) → option_map capped (digits_on (capped m * 10 + (b - 48)) bs) ≡ option_map capped (digits_on (m * 10 + (b - 48)) bs) → option_map capped (cond t (digits_on (capped m * 10 + (b - 48)) bs) None) ≡ option_map capped (cond t (digits_on (m * 10 + (b - 48)) bs) None)
    go true e = e
    go false e = refl

-- the digits from i on, where v was read before them
abbrev pub from : ℕ → ℕ → List ℕ → Option ℕ
from v i ds = option_map capped (digits_on v (drop i ds))

module _ (v i : ℕ) (ds : List ℕ) where
  pub goes : (w : ℕ) → i < length ds → true ≡ is_ascii_digit (get_or ds i 0) → w ≡ capped (capped (v * 10) + (get_or ds i 0 - 48)) → from w (i + 1) ds ≡ from v i ds
  goes w lt e h =
      let same : w ≡ capped (v * 10 + (get_or ds i 0 - 48)) = omega arith in
      ap (λ n. from n (i + 1) ds) same ∙ capped_on (v * 10 + (get_or ds i 0 - 48)) (drop (i + 1) ds) ∙ sym (at_drop_more (λ l. option_map capped (digits_on v l)) ds i 0 lt ∙ simp (sym e))

  pub ends : length ds ≤ i → v < 2 ^ 64 → Some v ≡ from v i ds
  ends le small = ap Some (omega arith) ∙ sym (at_drop_all (λ l. option_map capped (digits_on v l)) ds i le)
