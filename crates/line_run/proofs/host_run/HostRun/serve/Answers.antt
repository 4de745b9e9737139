use Rattle.std.proofs.Common.{◌∙◌, ℕ, Bool, Ok, Option, refl, subst, sym}
use Rattle.line_run.specs.Hosting.{Hosting}
use Rattle.line_run.specs.ServedNetworks.{IsEventServed, IsHeardOf}
use Rattle.line_run.specs.Unheard.{WaitsAfter}
use Rattle.line_run.proofs.host_run.HostRun.serve.Goals as goal

pub returns-then-is_served : goal.returns-then-is_served
returns-then-is_served g c =
    let old : Hosting = record { waiting = c.self.inside.nets.waiting; named = c.self.inside.nets.named; unheard = c.self.inside.unheard; logs = c.self.inside.world } in
    let new : Hosting = record { waiting = c.self.inside.nets.waiting; named = c.self.inside.nets.named; unheard = c.self.inside.unheard; logs = c.let_hear_of.new.world } in
    subst (λ (h : Hosting). IsEventServed c.args.number c.args.event (Ok c.in-Ok.given) h new) c.self.view_is (
      c.apply.new.self,
      c.in-Ok.ensures.answer,
      (
        c.in-Ok.ensures.marks,
        subst (λ (b : Bool). IsHeardOf b c.args.number c.args.event c.in-Ok.given c.apply.new.self old new) (sym c.if-is_served.true ∙ c.is_served.ensures) (c.in_ok-let_hear_of-in-Ok.ensures, refl),
      ),
      (refl, refl),
    )

pub returns-in_ok-note-in-Ok : goal.returns-in_ok-note-in-Ok
returns-in_ok-note-in-Ok g c =
    let old : Hosting = record { waiting = c.self.inside.nets.waiting; named = c.self.inside.nets.named; unheard = c.self.inside.unheard; logs = c.self.inside.world } in
    let new : Hosting = record { waiting = c.self.inside.nets.waiting; named = c.self.inside.nets.named; unheard = c.note.new.self; logs = c.apply.new.self } in
    subst (λ (h : Hosting). IsEventServed c.args.number c.args.event (Ok c.in-Ok.given) h new) c.self.view_is (
      c.apply.new.self,
      c.in-Ok.ensures.answer,
      (
        c.in-Ok.ensures.marks,
        subst (λ (b : Bool). IsHeardOf b c.args.number c.args.event c.in-Ok.given c.apply.new.self old new) (sym c.if-is_served.false ∙ c.is_served.ensures)
            (refl, subst (λ (s : Option ℕ). WaitsAfter s c.args.number c.in-Ok.given c.self.inside.unheard c.note.new.self) c.slot_closed_by-closed.ensures c.in_ok-note-in-Ok.ensures),
      ),
      (refl, refl),
    )
