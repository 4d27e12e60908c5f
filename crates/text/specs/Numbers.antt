-- The words that are numbers of 64 signed bits.
use Rattle.std.specs.Prelude.{ℕ, ◌+◌, ◌-◌, ◌*◌, ◌^◌, min, cond, List, [], ◌∷◌, ℤ, pos, negsuc, neg_ℤ, Some, None, Option, ◌==◌, nat_le, nat_lt}
use Rattle.std.specs.Char.{is_ascii_digit}
use Rattle.std.specs.Option.{option_and_then}

-- the value of digits behind a number that was read: none where a byte is no digit
abbrev pub digits_on : ℕ → List ℕ → Option ℕ
digits_on n [] = Some n
digits_on n (b ∷ bs) = cond (is_ascii_digit b) (digits_on (n * 10 + (b - 48)) bs) None

-- the value of at least one digit
abbrev pub natural_of : List ℕ → Option ℕ
natural_of [] = None
natural_of (b ∷ bs) = digits_on 0 (b ∷ bs)

-- at most the largest number of 64 bits
abbrev pub capped : ℕ → ℕ
capped n = min n (2 ^ 64 - 1)

-- one more than the largest number, and the size of the least
abbrev pub reach : ℕ
reach = 2 ^ 63

-- a number without a sign
abbrev pub positive : ℕ → Option ℤ
positive n = cond (nat_lt n reach) (Some (pos n)) None

-- a number behind a minus sign
abbrev pub negative : ℕ → Option ℤ
negative n = cond (nat_le n reach) (Some (neg_ℤ (pos n))) None

-- a number is digits, at least one, with or without a minus sign in front
abbrev pub number_of : List ℕ → Option ℤ
number_of [] = None
number_of (b ∷ bs) = cond (b == 45) (option_and_then negative (natural_of bs)) (option_and_then positive (natural_of (b ∷ bs)))

-- a negative number stands for the largest unsigned one, which is out of every range
abbrev pub unsigned : ℤ → ℕ
unsigned (pos n) = n
unsigned (negsuc n) = 2 ^ 64 - 1
