-- Books that are equal in meaning mean the same.
use Rattle.std.proofs.Common.{◌≡◌, ap}
use Rattle.book.specs.Holding.{Holding}
use Rattle.book.specs.Equal.{EqualInMeaning}

pub equal_is_same : (a b : Holding) → EqualInMeaning a b → a ≡ b
equal_is_same a b h = λ i. record {
  entities = h.entities i;
  contracts = h.contracts i;
  capacity = h.capacity i;
  at = λ entity contract. h.quantities entity contract i;
}

pub same_is_equal : (a b : Holding) → a ≡ b → EqualInMeaning a b
same_is_equal a b h = record {
  entities = ap (λ x. x.entities) h;
  contracts = ap (λ x. x.contracts) h;
  capacity = ap (λ x. x.capacity) h;
  quantities = λ entity contract. ap (λ x. x.at entity contract) h;
}
