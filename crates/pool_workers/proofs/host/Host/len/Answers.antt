use Rattle.std.proofs.Common.{List, length, sym, ◌∙◌, ap}
use Rattle.pool_workers.specs.NetSights.{NetSight}
use Rattle.pool_workers.proofs.Nets.{kept_len}
use Rattle.pool_workers.proofs.host.Host.len.Goals as goal

pub returns : goal.returns
returns g c =
    let f = c.self.inside.host_state in
    c.len.ensures ∙ f.shared.cells.ok.0 ∙ sym (kept_len c.self.inside.is_turned f c.self.invariant) ∙ ap (λ (ns : List NetSight). length ns) c.self.view_is
