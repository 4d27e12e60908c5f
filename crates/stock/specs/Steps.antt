-- What the steps of a close do, one entity at a time.
use Rattle.std.specs.Prelude.{ℕ, Bool, cond, not, ◌&&◌, ℤ, Some, None, Option, ◌==◌}
use Rattle.rules.specs.Charge.{charge_of}
use Rattle.rules.specs.Violation.{between, violation}
use Rattle.stock.specs.declared.turn.Turn.{Turn}
use Rattle.stock.specs.declared.violation.Violation.{Violation}
use Rattle.stock.specs.Close.{judges}

-- the quantities of f, but for an entity's contracts in the stock, which have those of row
abbrev pub with_row : (ℕ → Bool) → ℕ → (ℕ → ℤ) → (ℕ → ℕ → ℤ) → ℕ → ℕ → ℤ
with_row in_stock entity row f e c = cond (e == entity && in_stock c) (row c) (f e c)

-- what an entity of net x by its base and net y by its book violates and is charged: nothing where nobody is judged, or it obeys
abbrev pub found : Turn → ℤ → ℤ → ℕ → Option Violation
found turn x y price =
    cond (judges turn && not (between x y)) (Some (record { quantity = violation x y; charge = charge_of (violation x y) price })) None
