-- What a position book means.
use Rattle.std.specs.Prelude.{◌≡◌, ℕ, zero, suc, ◌+◌, ◌*◌, ◌≤◌, Bool, false, cond, not, ◌&&◌, List, [], ◌∷◌, ℤ, pos, ◌+ℤ◌, Some, None, Ok, Err, Option, Result, ◌==◌, nat_le, nat_lt, slice_index_or, unsigned_abs, unwrap_or}
use Rattle.terms.specs.Bounds.{quantity_bound}
use Rattle.terms.specs.Causes.{unless}
use Rattle.terms.specs.declared.refusal.Refusal.{Refusal}
use Rattle.terms.specs.declared.refusal.Refusal.TheVariants.{Pair, Size, Full}
use Rattle.book.specs.declared.position.Shape.{Shape}

-- the numbers of entities, of contracts and of pairs that may be non-zero, and the quantity of each pair
pub record Holding : Type 0 where
  pub entities : ℕ
  pub contracts : ℕ
  pub capacity : ℕ
  pub at : ℕ → ℕ → ℤ

-- the three numbers of a book, which never change
abbrev pub shape_of : Holding → Shape
shape_of b = record { entities = b.entities; contracts = b.contracts; capacity = b.capacity }

-- the quantity of a pair
abbrev pub quantity_of : Holding → ℕ → ℕ → ℤ
quantity_of b entity contract = b.at entity contract

-- the pair is one of the book's
abbrev pub inside : Holding → ℕ → ℕ → Bool
inside b entity contract = nat_lt entity b.entities && nat_lt contract b.contracts

-- a number, or zero where there is none
abbrev pub or_zero : Option ℤ → ℤ
or_zero z = unwrap_or z (pos 0)

-- a quantity is zero
abbrev pub is_zero : ℤ → Bool
is_zero z = unsigned_abs z == 0

-- a quantity is not too large in size
abbrev pub small : ℤ → Bool
small z = nat_le (unsigned_abs z) quantity_bound

-- how many of the first n values of f are not zero
abbrev pub nonzero : (ℕ → ℤ) → ℕ → ℕ
nonzero f zero = 0
nonzero f (suc n) = nonzero f n + cond (is_zero (f n)) 0 1

-- how many values of f are not zero, of the pairs below e and c
abbrev pub nonzeros : (ℕ → ℕ → ℤ) → ℕ → ℕ → ℕ
nonzeros f zero c = 0
nonzeros f (suc e) c = nonzeros f e c + nonzero (f e) c

-- how many pairs of a book are not zero
unfoldable pub count : Holding → ℕ
count b = nonzeros b.at b.entities b.contracts

-- the pair is at zero, the change is not, and as many pairs are non-zero as may be
unfoldable pub blocked : Holding → ℕ → ℕ → ℤ → Bool
blocked b entity contract change =
    (is_zero (b.at entity contract) && not (is_zero change)) && nat_le b.capacity (count b)

-- a post: PAIR for one that isn't the book's, SIZE for a new quantity that is too large, FULL
abbrev pub post_table : Holding → ℕ → ℕ → ℤ → List (Bool × Refusal)
post_table b entity contract change =
    (not (inside b entity contract), Pair)
    ∷ (not (small (b.at entity contract +ℤ change)), Size)
    ∷ (blocked b entity contract change, Full)
    ∷ []

-- what a post answers: the new quantity, or the first of these causes
unfoldable pub reply : Holding → ℕ → ℕ → ℤ → Result ℤ Refusal
reply b entity contract change = unless (post_table b entity contract change) (Ok (b.at entity contract +ℤ change))

-- the quantities of f, but for one pair
abbrev pub put : (ℕ → ℕ → ℤ) → ℕ → ℕ → ℤ → ℕ → ℕ → ℤ
put f entity contract q i j = cond (i == entity && j == contract) q (f i j)

-- the book in which one pair has another quantity
abbrev pub with_pair : Holding → ℕ → ℕ → ℤ → Holding
with_pair b entity contract q = record {
  entities = b.entities;
  contracts = b.contracts;
  capacity = b.capacity;
  at = put b.at entity contract q;
}

-- what is left once a post has answered
abbrev pub settle : Holding → ℕ → ℕ → Result ℤ Refusal → Holding
settle b entity contract (Ok q) = with_pair b entity contract q
settle b entity contract (Err _) = b

-- what a post leaves
unfoldable pub posted : Holding → ℕ → ℕ → ℤ → Holding
posted b entity contract change = settle b entity contract (reply b entity contract change)

-- what holds of every book
pub record Sound (b : Holding) : Type 0 where
  pub bounded : (entity contract : ℕ) → unsigned_abs (b.at entity contract) ≤ quantity_bound
  pub outside : (entity contract : ℕ) → inside b entity contract ≡ false → b.at entity contract ≡ pos 0
  pub few : count b ≤ b.capacity

-- the sum of a quantity and a change, unless it is too large
abbrev pub sum_of : ℤ → ℤ → Result ℤ Refusal
sum_of q change = cond (small (q +ℤ change)) (Ok (q +ℤ change)) (Err Size)

-- every pair is at zero
abbrev pub blank : ℕ → ℕ → ℕ → Holding
blank entities contracts capacity = record {
  entities = entities;
  contracts = contracts;
  capacity = capacity;
  at = λ _ _. pos 0;
}

-- the place of a pair, row by row, if it is below e and c
abbrev pub place_of : ℕ → ℕ → ℕ → ℕ → Option ℕ
place_of e c entity contract = cond (nat_lt entity e && nat_lt contract c) (Some (entity * c + contract)) None

-- the book that keeps every pair in a cell of its own
unfoldable pub gridded : ℕ → ℕ → List ℤ → Holding
gridded e c cells = record {
  entities = e;
  contracts = c;
  capacity = e * c;
  at = λ i j. cond (nat_lt i e && nat_lt j c) (slice_index_or cells (i * c + j) (pos 0)) (pos 0);
}

-- a new grid over n cells: it has no entities where they are too few
abbrev pub new_grid : ℕ → ℕ → ℕ → Holding
new_grid n e c = cond (nat_le (e * c) n) (blank e c (e * c)) (blank 0 c 0)
