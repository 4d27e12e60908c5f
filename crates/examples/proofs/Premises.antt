-- The premises of the laws are met.
use Rattle.std.proofs.Common.{◌≡◌, ℕ, zero, suc, ◌+◌, ◌<◌, ◌≤◌, refl, sym, subst, ⊎_elim, arith}
use Rattle.std.proofs.lemmas.Bool.{cases_eq, false≢true}
use Rattle.book.specs.Holding.{count, blocked, reply, posted}
use Rattle.reading.specs.Readings.{net, long, short}
use Rattle.reading.specs.Missing.{missing}
use Rattle.model.specs.Calls.{close}
use Rattle.model.specs.Runs.{Banned, CloseOf, BanStart, Accepted, book_at, charge_after}
use Rattle.model.specs.Handbook.{same, settlements, none, more, Larger}
use Rattle.examples.specs.Words.{stock}
use Rattle.examples.specs.Ban as ban
use Rattle.examples.specs.Premises.{day_under, LargerIsMet, held, full, BanIsMet, MarketIsMet}

larger : (net cover net' cover' : ℕ) → net ≤ net' → cover ≤ cover' → (1 ≤ net) → (net' ≤ 10000) → Larger (day_under net cover) (day_under net' cover')
larger net cover net' cover' h k l m = record {
  alike = record {
    both_open = (grind (arith), grind (arith));
    books = record { entities = refl; contracts = refl; capacity = refl; quantities = λ e c. refl };
    contracts = refl;
    underlyings = refl;
    calls = more same (more same (more same (more same (more same (more same (more same (more same (more (settlements (λ e u s. omega arith)) none))))))));
  };
  net = omega arith;
  gross = omega arith;
}

pub larger_is_met : LargerIsMet
unfolding count blocked reply posted net long short missing
larger_is_met = record {
  by_limit = larger 5000 0 5400 0 (omega arith) (omega arith) (omega arith) (omega arith);
  breach = refl;
  no_breach = refl;
  by_cover = larger 5000 0 5000 310 (omega arith) (omega arith) (omega arith) (omega arith);
  final = refl;
  no_final = refl;
}

-- each of n numbers from a on
Each : (ℕ → Type 0) → ℕ → ℕ → Type 0
Each P a zero = Unit {0}
Each P a (suc n) = P a × Each P (suc a) n

each : (P : ℕ → Type 0) (a n : ℕ) → Each P a n → (j : ℕ) → a ≤ j → j < a + n → P j
unfolding Each
each P a zero t j l m = absurd (omega arith)
each P a (suc n) t j l m = ⊎_elim (λ q. subst P (sym q) t.0) (λ q. each P (suc a) n t.1 j (omega arith) (omega arith)) (cases_eq j a)

-- the ban of `held` begins at place 3, and is in force up to place 7
begins : BanStart held stock 3
unfolding count blocked reply posted net missing
begins = record { two = ban.two full; closing = ban.closing full; accepted = record { holds = refl; passed = refl }; free = λ p. false≢true p; begun = refl }

in_force : (j : ℕ) → 3 < j → j ≤ 7 → Banned held j stock
unfolding Each count blocked reply posted net missing
in_force j l m = each (λ (i : ℕ). Banned held i stock) 4 4 (refl, (refl, (refl, (refl, tt)))) j (omega arith) (omega arith)

stays : (j : ℕ) → 3 < j → j ≤ 7 → (c : ℕ) → book_at held j 1 c ≡ book_at held 3 1 c
unfolding Each count blocked reply posted net missing
stays j l m c = each (λ (i : ℕ). book_at held i 1 c ≡ book_at held 3 1 c) 4 4 (refl, (refl, (refl, (refl, tt)))) j (omega arith) (omega arith)

closes : (k : ℕ) → 3 < k → k ≤ 7 → Accepted held k (close stock (ban.two full) (ban.closing full)) → CloseOf held stock 3 k (ban.two full) (ban.closing full)
closes k l m a = record { start = begins; later = l; accepted = a; in_force = λ j p q. in_force j p (omega arith) }

pub ban_is_met : BanIsMet
unfolding count blocked reply posted net missing
ban_is_met = record {
  first = closes 5 (omega arith) (omega arith) (record { holds = refl; passed = refl });
  second = closes 6 (omega arith) (omega arith) (record { holds = refl; passed = refl });
  third = closes 7 (omega arith) (omega arith) (record { holds = refl; passed = refl });
  unmoved = λ j two d l h c w. stays j h.later l c;
  free = refl;
  charged = refl;
}

-- nobody is charged at the close at place 4 of `returned`
nobody : (e : ℕ) → e < 5 → charge_after ban.returned 4 stock e ≡ 0
unfolding Each count blocked reply posted net missing
nobody e l = each (λ (i : ℕ). charge_after ban.returned 4 stock i ≡ 0) 0 5 (refl, (refl, (refl, (refl, (refl, tt))))) e (omega arith) (omega arith)

holds_on : (j : ℕ) → 2 < j → j ≤ 4 → Banned ban.returned j stock
unfolding Each count blocked reply posted net missing
holds_on j l m = each (λ (i : ℕ). Banned ban.returned i stock) 3 2 (refl, (refl, tt)) j (omega arith) (omega arith)

pub market_is_met : MarketIsMet
unfolding count blocked reply posted net missing
market_is_met = record {
  close = record {
    start = record { two = ban.two full; closing = ban.closing full; accepted = record { holds = refl; passed = refl }; free = λ p. false≢true p; begun = refl };
    later = omega arith;
    accepted = record { holds = refl; passed = refl };
    in_force = holds_on;
  };
  nobody = nobody;
  before = refl;
  after = refl;
}
