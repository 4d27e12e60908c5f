-- What a depository covers.
use Rattle.std.specs.Prelude.{ℕ, ◌*◌, Bool, false, true, cond, ◌&&◌, List, ◌==◌, nat_le}
use Rattle.std.specs.Int.{is_in_range}
use Rattle.std.specs.List.{sum_by}
use Rattle.terms.specs.Bounds.{quantity_bound, price_bound}
use Rattle.terms.specs.declared.mark.Side.TheVariants.{Long, Short}
use Rattle.cover.specs.declared.depository.Class.{Class}
use Rattle.cover.specs.declared.depository.Class.TheVariants.{Equity, Other}
use Rattle.cover.specs.declared.depository.DepositoryRow.{DepositoryRow}
use Rattle.cover.specs.Covers.{Amounts, cut}

-- only equity covers
abbrev pub is_equity : Class → Bool
is_equity Equity = true
is_equity Other = false

-- a row counts for an entity: it is the entity's, of equity, and its quantity and price are in range
abbrev pub is_counted : ℕ → DepositoryRow → Bool
is_counted entity row =
    (row.entity == entity && is_equity row.class)
    && (nat_le row.quantity quantity_bound && is_in_range 1 price_bound row.price)

-- what a row adds for an entity: its quantity at its closing price, if it counts
abbrev pub worth_to : ℕ → DepositoryRow → ℕ
worth_to entity row = cond (is_counted entity row) (row.quantity * row.price) 0

-- what all rows add for an entity, cut
abbrev pub holdings : List DepositoryRow → ℕ → ℕ
holdings rows entity = cut (sum_by (worth_to entity) rows)

-- what a depository covers: the short side of any underlying, and no long side
abbrev pub deposited : List DepositoryRow → Amounts
deposited rows entity underlying Long = 0
deposited rows entity underlying Short = holdings rows entity
