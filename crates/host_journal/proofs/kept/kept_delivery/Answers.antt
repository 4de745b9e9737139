use Rattle.std.proofs.Common.{ap, length, subst, ◌∙◌}
use Rattle.scp_codec.specs.Steps.{IsBytes}
use Rattle.host_journal.proofs.Spelled.{few_bytes, filed}
use Rattle.host_journal.proofs.kept.kept_delivery.Goals as goal

pub narrow-size-requires : goal.narrow-size-requires
narrow-size-requires c =
    few_bytes c.args.delivered c.in-Some.envelope c.args.bytes.now c.args.node c.count_bytes.result c.in-Some.is c.requires.delivered (subst IsBytes c.as_slice.ensures c.count_bytes.ensures.bytes)
    (c.count_bytes.ensures.count ∙ ap length c.as_slice.ensures)

pub returns-clause-filed : goal.returns-clause-filed
returns-clause-filed c =
    filed c.args.delivered c.in-Some.envelope c.args.bytes.now c.args.node c.narrow-size.result c.in-Some.is c.requires.delivered (subst IsBytes c.as_slice.ensures c.count_bytes.ensures.bytes)
    (c.narrow-size.ensures ∙ c.count_bytes.ensures.count ∙ ap length c.as_slice.ensures)
