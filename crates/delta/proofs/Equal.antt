-- Sources that are equal in meaning are one.
use Rattle.std.proofs.Common.{◌≡◌}
use Rattle.delta.specs.Sources.{Source, EqualSources}

pub same_source : {d d' : Source} → EqualSources d d' → d ≡ d'
same_source h = λ i. record {
  delta = λ contract kind. h.answers contract kind i;
  minute = h.minutes i;
  price = h.prices i;
}
