use Rattle.std.proofs.Common.{refl, ap, ◌∙◌}
use Rattle.std.specs.List.{insert}
use Rattle.scp_spec.specs.Hosts.{Config}
use Rattle.pool_workers.proofs.host_state.HostState.put_at.Goals as goal

pub returns : goal.returns
returns g c = record {
  numbers = c.in-Ok.ensures.items ∙ ap (λ n. insert c.args.self.now.shared.numbers.items c.args.place n) (c.number-number.ensures ∙ ap (λ (k : Config). k.number) c.config.ensures);
  cells = c.in-Ok-insert.ensures.items;
  spare = record { seats = c.args.seats };
  own = refl;
  spares = c.in-Ok-insert-2.ensures.items;
  queue = refl;
}
