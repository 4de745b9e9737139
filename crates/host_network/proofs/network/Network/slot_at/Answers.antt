use Rattle.std.proofs.Common.{ℕ, List, ◌∙◌, map, sym, ap}
use Rattle.host_config.specs.Configs.{index_in}
use Rattle.host_network.specs.Deeds.{index_of_slot}
use Rattle.host_network.specs.FiledSlots.{slot_of}
use Rattle.host_network.specs.Standing.{FiledMachine, machine_of}
use Rattle.host_network.proofs.SlotPlaceLaws.{numbers-are}
use Rattle.host_network.proofs.network.Network.slot_at.Goals as goal

pub returns : goal.returns
returns g c =
    c.place.ensures
    ∙ ap (λ (ns : List ℕ). index_in ns c.args.slot) (sym (numbers-are c.self.inside.slots))
    ∙ ap (λ (m : FiledMachine). index_of_slot (map slot_of (machine_of m).slots) c.args.slot) c.self.view_is
