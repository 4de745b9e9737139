use Rattle.std.proofs.Common.{◌∙◌, sym, ap, subst}
use Rattle.scp_spec.specs.Hosts.{Config}
use Rattle.scp_spec.specs.Sets.{IsAscending}
use Rattle.host_config.specs.Configs.{index_in, names_of}
use Rattle.host_config.proofs.config.NetConfig.place_from.Goals as goal

pub stands_at-requires : goal.stands_at-requires
stands_at-requires c = subst IsAscending (sym c.self.invariant.are_names ∙ sym c.deref.ensures.value) c.self.invariant.are_nodes.ascending

pub returns-then-stands_at : goal.returns-then-stands_at
returns-then-stands_at c =
    sym (c.stands_at.ensures c.if-stands_at.true)
    ∙ ap (λ ns. index_in ns c.args.name.now) (c.deref.ensures.value ∙ c.self.invariant.are_names ∙ ap (λ (cfg : Config). names_of cfg.nodes) c.self.view_is)
