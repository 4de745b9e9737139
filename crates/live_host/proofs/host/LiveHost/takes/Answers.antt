use Rattle.std.proofs.Common.{◌∙◌, sym, ap}
use Rattle.live_host.specs.Hosts.{takes_declaration}
use Rattle.live_host.proofs.host.LiveHost.takes.Goals as goal

pub returns-in-Net : goal.returns-in-Net
returns-in-Net c = c.has_room_for.ensures c.in-Net.field-0 ∙ ap (takes_declaration c.args.self.now c.args.number) (sym c.in-Net.is)
