-- How the words of a line are taken.
use Rattle.std.proofs.Common.{◌≡◌, ℕ, Bool, true, false, cond, List, [], ◌∷◌, map, Some, None, Option, Bor, refl, ap, ◌∙◌}
use Rattle.std.specs.List.{find}
use Rattle.std.specs.Option.{option_map}
use Rattle.std.specs.Str.{bytes_eq}
use Rattle.journal.specs.Names.{named}

-- a table's row that is found by its word
module _ {X : Type 0} (w : List ℕ) where
  found : (table : List (Bor (List ℕ) × X)) → option_map (λ row. row.1) (find (λ row. bytes_eq w row.0.now) table) ≡ named (map (λ row. (row.0.now, row.1)) table) w
  found [] = refl
  found (row ∷ rows) = go (bytes_eq w row.0.now) (found rows)
    where
      go : (t : Bool) → option_map (λ row. row.1) (find (λ row. bytes_eq w row.0.now) rows) ≡ named (map (λ row. (row.0.now, row.1)) rows) w → option_map {T = Bor (List ℕ) × X} (λ row. row.1) (cond t (Some row) (find (λ row. bytes_eq w row.0.now) rows)) ≡ option_map {T = List ℕ × X} (λ row. row.1) (cond t (Some (row.0.now, row.1)) (find (λ row. bytes_eq w row.0) (map (λ row. (row.0.now, row.1)) rows)))
      go true e = refl
      go false e = e

  pub named_is : (table : List (Bor (List ℕ) × X)) (r : Option (Bor (Bor (List ℕ) × X))) → option_map (λ x. x.now) r ≡ find (λ row. bytes_eq w row.0.now) table → option_map (λ x. x.now.1) r ≡ named (map (λ row. (row.0.now, row.1)) table) w
  named_is table r e = inner r ∙ ap (option_map (λ row. row.1)) e ∙ found table
    where
      inner : (o : Option (Bor (Bor (List ℕ) × X))) → option_map (λ x. x.now.1) o ≡ option_map (λ row. row.1) (option_map (λ x. x.now) o)
      inner None = refl
      inner (Some x) = refl
