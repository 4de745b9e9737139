use Rattle.std.proofs.Common.{sym, subst}
use Rattle.host_network.specs.Answers.{IsApplied}
use Rattle.host_network.specs.Deeds.{IsPlan}
use Rattle.host_network.specs.Standing.{FiledMachine}
use Rattle.host_network.proofs.Carried.{applied, carriable, doable, room-on-network, standing-after}
use Rattle.host_network.proofs.network.Network.carry_out.Goals as goal

pub perform-requires-clause-doable : goal.perform-requires-clause-doable
perform-requires-clause-doable g c =
    let l = c.limits.ensures in
    let a = carriable c.requires.0 c.args.plan c.self.view_is c.self.invariant c.requires.1 l.events l.bytes l.shares in
    doable a

pub count-requires : goal.count-requires
count-requires g c =
    let l = c.limits.ensures in
    let a = carriable c.requires.0 c.args.plan c.self.view_is c.self.invariant c.requires.1 l.events l.bytes l.shares in
    room-on-network a

pub invariant_of-self-in-Ok : goal.invariant_of-self-in-Ok
invariant_of-self-in-Ok g c =
    let l = c.limits.ensures in
    let a = carriable c.requires.0 c.args.plan c.self.view_is c.self.invariant c.requires.1 l.events l.bytes l.shares in
    standing-after a c.perform.new.slots c.perform.new.archive c.in-Ok.ensures.done c.perform.ensures.archived
    c.count.new.events c.count.new.bytes c.count.new.opens c.count.ensures.events c.count.ensures.bytes c.count.ensures.opens

pub returns-in-Ok-clause-applied : goal.returns-in-Ok-clause-applied
returns-in-Ok-clause-applied g c e is =
    let i = c.self.inside in
    let m : FiledMachine = record { config = i.config; archive = i.archive; slots = i.slots; events = i.events; bytes = i.bytes; opens = i.opens } in
    let plan = subst (λ (s : FiledMachine). IsPlan s e c.args.plan) (sym c.self.view_is) is in
    let after : FiledMachine = record { config = i.config; archive = c.perform.new.archive; slots = c.perform.new.slots; events = c.count.new.events; bytes = c.count.new.bytes; opens = c.count.new.opens } in
    subst (λ (s : FiledMachine). IsApplied s e after c.in-Ok.outcome) c.self.view_is
    (applied m e c.args.plan c.perform.new.slots c.perform.new.archive c.count.new.events c.count.new.bytes c.count.new.opens c.in-Ok.outcome c.self.invariant plan c.in-Ok.ensures.done
    c.count.ensures.events c.count.ensures.bytes c.count.ensures.opens c.in-Ok.ensures.outcome)
