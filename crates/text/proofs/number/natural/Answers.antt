use Rattle.std.proofs.Common.{◌∙◌, arith}
use Rattle.text.proofs.Digits.{goes}
use Rattle.text.proofs.number.natural.Goals as goal

pub loop-byte-preserved : goal.loop-byte-preserved
loop-byte-preserved c = (omega arith, goes c.loop-byte.value c.loop-byte.byte-index c.args.digits.now c.saturating_add-value.result (omega arith) c.if-not-is_ascii_digit.ensures.value (omega arith) ∙ c.loop-byte.invariant.1)
