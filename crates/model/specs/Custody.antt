-- Confirmation of a custodial trade: off the member, then onto the participant, both or neither.
use Rattle.std.specs.Prelude.{neg_ℤ, Ok, Err}
use Rattle.std.specs.Result.{result_and}
use Rattle.terms.specs.declared.command.Trade.{Trade}
use Rattle.book.specs.Holding.{Holding, reply, posted}
use Rattle.model.specs.Causes.{Answer}

-- the book with the trade off the member
abbrev pub off_member : Holding → Trade → Holding
off_member b d = posted b d.member d.contract (neg_ℤ d.change)

-- the book with the trade on the participant in the member's place
abbrev pub transferred : Holding → Trade → Holding
transferred b d = posted (off_member b d) d.participant d.contract d.change

-- the participant's new quantity, or the first posting's cause, or the second's
abbrev pub transfer_reply : Holding → Trade → Answer
transfer_reply b d =
    result_and (reply b d.member d.contract (neg_ℤ d.change))
    (reply (off_member b d) d.participant d.contract d.change)

-- what a posting or a transfer with this answer leaves: a declined one leaves the book as it was
abbrev pub leaves : Answer → Holding → Holding → Holding
leaves (Ok n) old new = new
leaves (Err why) old new = old
