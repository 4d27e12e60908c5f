use Rattle.std.proofs.Common.{◌≡◌, ◌^◌, ◌<◌}
use Rattle.std.specs.Option.{option_map}
use Rattle.text.specs.Numbers.{natural_of, capped}
use Rattle.text.proofs.Digits.{from}
use Rattle.text.proofs.number.natural.Given as goal

abbrev pub invariant-loop-byte : goal.invariant-loop-byte
invariant-loop-byte l = (l.value < 2 ^ 64) × (from l.value l.byte-index l.digits ≡ option_map capped (natural_of l.digits))
