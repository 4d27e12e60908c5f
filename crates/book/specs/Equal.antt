-- When two books, of any makes, are equal in meaning.
use Rattle.std.specs.Prelude.{◌≡◌, ℕ}
use Rattle.book.specs.Holding.{Holding, quantity_of}

-- their three numbers agree, and so does every quantity
pub record EqualInMeaning (a b : Holding) : Type 0 where
  pub entities : a.entities ≡ b.entities
  pub contracts : a.contracts ≡ b.contracts
  pub capacity : a.capacity ≡ b.capacity
  pub quantities : (entity contract : ℕ) → quantity_of a entity contract ≡ quantity_of b entity contract
