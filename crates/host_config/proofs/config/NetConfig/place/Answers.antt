use Rattle.std.proofs.Common.{◌∙◌, sym, ap, subst}
use Rattle.scp_spec.specs.Hosts.{Config}
use Rattle.scp_spec.specs.Sets.{IsAscending}
use Rattle.host_config.specs.Configs.{index_in, names_of}
use Rattle.host_config.proofs.config.NetConfig.place.Goals as goal

pub place_in-requires : goal.place_in-requires
place_in-requires c = subst IsAscending (sym c.self.invariant.are_names ∙ sym c.deref.ensures.value) c.self.invariant.are_nodes.ascending

pub returns : goal.returns
returns c =
    c.place_in.ensures
    ∙ ap (λ ns. index_in ns c.args.name.now) (c.deref.ensures.value ∙ c.self.invariant.are_names ∙ ap (λ (cfg : Config). names_of cfg.nodes) c.self.view_is)
