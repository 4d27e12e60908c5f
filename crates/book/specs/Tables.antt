-- What a register means: a table, which has a value or none for each key.
use Rattle.std.specs.Prelude.{ℕ, Bool, cond, ◌||◌, Ok, Err, Option, Result, nat_lt, refl}
use Rattle.std.specs.Ordering.{nat_cmp}
use Rattle.std.specs.FinMap.{FinMap, empty, get, contains_key, insert, remove, len, code}
use Rattle.std.specs.Coded.{Coded, code_by, coded×, coded_ℕ}
use Rattle.terms.specs.declared.refusal.Refusal.{Refusal}
use Rattle.terms.specs.declared.refusal.Refusal.TheVariants.{Full}

-- how many keys may have a value, and the keys that have one with their values
pub record Table (V : Type 0) : Type 0 where
  pub capacity : ℕ
  pub rows : FinMap nat_cmp V

-- a table as a pair
abbrev pub table_code : {V : Type 0} → Coded V → Coded (Table V)
table_code {V} v =
    code_by (ℕ × FinMap nat_cmp V) (coded× coded_ℕ (code coded_ℕ v)) (λ t. (t.capacity, t.rows)) (λ p. record { capacity = p.0; rows = p.1 }) (λ _. refl)

-- how many keys have a value
abbrev pub size : {V : Type 0} → Table V → ℕ
size t = len t.rows

-- the value of a key, or none
abbrev pub value_of : {V : Type 0} → Table V → ℕ → Option V
value_of t key = get t.rows key

-- no key has a value
abbrev pub emptied : {V : Type 0} → ℕ → Table V
emptied capacity = record { capacity = capacity; rows = empty }

-- a put is taken: the key has a value already, or there is room for one more
abbrev pub taken : {V : Type 0} → Table V → ℕ → Bool
taken t key = contains_key t.rows key || nat_lt (size t) t.capacity

-- what a put answers: the value that it replaces, or none; a new key in a full table is declined
abbrev pub put_reply : {V : Type 0} → Table V → ℕ → Result (Option V) Refusal
put_reply t key = cond (taken t key) (Ok (value_of t key)) (Err Full)

-- what a put leaves
abbrev pub putted : {V : Type 0} → Table V → ℕ → V → Table V
putted t key value =
    cond (taken t key) (record { capacity = t.capacity; rows = insert t.rows key value }) t

-- what a removal leaves
abbrev pub removed : {V : Type 0} → Table V → ℕ → Table V
removed t key = record { capacity = t.capacity; rows = remove t.rows key }
