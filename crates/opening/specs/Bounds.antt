-- How much an opening may declare, each number under one name. src/bounds.rt has the same names.
use Rattle.std.specs.Prelude.{ℕ}

-- the most underlyings that are declared
abbrev pub declared_underlyings : ℕ
declared_underlyings = 16

-- the most contracts that are declared
abbrev pub declared_contracts : ℕ
declared_contracts = 64
