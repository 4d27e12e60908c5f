-- Four clients of a stock that has a future, a call and a put.
use Rattle.std.specs.Prelude.{◌≡◌, ℕ, [], ◌∷◌, ℤ, pos, neg_ℤ}
use Rattle.terms.specs.declared.kind.Kind.TheVariants as kind
use Rattle.terms.specs.declared.kind.Underlying.TheVariants.{Stock}
use Rattle.book.specs.Holding.{new_grid}
use Rattle.delta.specs.Sources.{Source}
use Rattle.model.specs.Calls.{post, reading_answer, interest_answer, notional_answer}
use Rattle.model.specs.Runs.{Run, outcome}
use Rattle.examples.specs.Words.{stock, contract, bought, sold, crore, priced}

-- four clients, and what each trades
abbrev pub clients : Run
clients = record {
  opening = record {
    book = new_grid 12 4 3;
    contracts = contract kind.Future ∷ contract kind.Call ∷ contract kind.Put ∷ [];
    underlyings = Stock ∷ [];
    limits = record { net = crore; gross = crore };
  };
  calls =
      -- client 0 buys 300 futures
      post 0 0 (bought 300)
      -- client 1 buys 500 calls
      ∷ post 1 1 (bought 500)
      -- client 2 buys 300 futures, 500 calls and 400 puts
      ∷ post 2 0 (bought 300)
      ∷ post 2 1 (bought 500)
      ∷ post 2 2 (bought 400)
      -- client 3 sells 400 puts and 400 calls
      ∷ post 3 2 (sold 400)
      ∷ post 3 1 (sold 400)
      ∷ [];
}

-- a future counts in full, a call half a unit, and a put half of one short
abbrev pub deltas : Source
deltas = priced 930 10000 (pos 10000 ∷ pos 5000 ∷ neg_ℤ (pos 5000) ∷ [])

-- net, long and short of a client, in ten-thousandths of a unit
abbrev pub reading : ℕ → ℤ × ℤ × ℤ
reading client = reading_answer (outcome clients) stock deltas.delta client

-- what they hold
pub record FourClients : Type 0 where
  -- 300 units net, all long
  pub client_0 : reading 0 ≡ (pos 3000000, pos 3000000, pos 0)
  -- 250 units net, all long
  pub client_1 : reading 1 ≡ (pos 2500000, pos 2500000, pos 0)
  -- 350 units net: 550 long, and 200 short, as a put that is bought is
  pub client_2 : reading 2 ≡ (pos 3500000, pos 5500000, pos 2000000)
  -- none net: 200 long, as a put that is sold is, and 200 short
  pub client_3 : reading 3 ≡ (pos 0, pos 2000000, pos 2000000)
  -- market open interest is 900 units
  pub market_interest : interest_answer (outcome clients) stock deltas.delta ≡ 9000000
  -- notional open interest is 2,800: each contract counts in full, whether long or short
  pub notional_interest : notional_answer (outcome clients) stock ≡ 28000000
