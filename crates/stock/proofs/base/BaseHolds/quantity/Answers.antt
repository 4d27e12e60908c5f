use Rattle.std.proofs.Common.{◌+◌, ◌*◌, ◌∙◌}
use Rattle.terms.specs.Bounds.{most_contracts}
use Rattle.book.proofs.Posts.{stored}
use Rattle.stock.proofs.Cells.{read, unread}
use Rattle.stock.proofs.base.BaseHolds.quantity.Goals as goal

pub returns-then-entity-ge-MOST_ENTITIES : goal.returns-then-entity-ge-MOST_ENTITIES
returns-then-entity-ge-MOST_ENTITIES c =
    unread c.args.self.now.cells c.args.entity c.args.contract c.then-entity-ge-MOST_ENTITIES.either

pub returns : goal.returns
returns c =
    stored _ (c.args.self.now.small (c.args.entity * most_contracts + c.args.contract))
    ∙ read c.args.self.now.cells c.args.entity c.args.contract c.if-entity-ge-MOST_ENTITIES.false c.if-contract-ge-MOST_CONTRACTS.false
