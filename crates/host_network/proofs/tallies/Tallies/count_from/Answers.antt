use Rattle.std.proofs.Common.{◌≡◌, ◌<◌, ◌+◌, ◌==◌, List, ◌∙◌, ◌^◌, get_or, if◌then◌else◌, None, Some, refl, sym, ap, subst}
use Rattle.std.specs.List.{insert}
use Rattle.scp_spec.specs.Sets.{IsAscending}
use Rattle.host_config.specs.Configs.{index_in}
use Rattle.host_network.specs.Charges.{FitsOrNone}
use Rattle.host_network.specs.FiledSlots.{bytes_from, events_from}
use Rattle.host_network.specs.TallyBooks.{TallyBook, tallied_names}
use Rattle.host_network.specs.declared.tallies.Tally.{Tally}
use Rattle.host_network.proofs.KeyPlaces.{keys-insert, keys-set}
use Rattle.host_network.proofs.TallyLaws.{bytes-has, bytes-insert, bytes-set, events-has, events-insert, events-set}
use Rattle.host_network.proofs.tallies.Tallies.count_from.Goals as goal

-- the name has a tally
pub add-requires-clause-events : goal.add-requires-clause-events
add-requires-clause-events c =
    let read = c.index_mut.ensures.value ∙ ap (λ (b : TallyBook). get_or b.tallies c.in-Ok.at c.index_mut.result.now) c.self.view_is in
    subst (λ n. n < 2 ^ 40) (events-has c.args.self.now.tallies c.args.from.now c.in-Ok.at c.index_mut.result.now c.in-Ok.ensures.0 read) c.requires.few_events

pub add-requires-clause-bytes : goal.add-requires-clause-bytes
add-requires-clause-bytes c =
    let read = c.index_mut.ensures.value ∙ ap (λ (b : TallyBook). get_or b.tallies c.in-Ok.at c.index_mut.result.now) c.self.view_is in
    subst (λ n. FitsOrNone n c.args.size) (bytes-has c.args.self.now.tallies c.args.from.now c.in-Ok.at c.index_mut.result.now c.in-Ok.ensures.0 read) c.requires.few_bytes

pub invariant_of-self : goal.invariant_of-self
invariant_of-self c = keys-set (λ (t : Tally). t.from) c.self.inside.entries.items c.in-Ok.at c.index_mut.result.now c.add.new.tally c.index_mut.ensures.value c.add.ensures.from c.self.invariant

pub returns-in-Ok-clause-events : goal.returns-in-Ok-clause-events
returns-in-Ok-clause-events c = λ u.
    let there = subst (λ (b : TallyBook). index_in (tallied_names b.tallies) c.args.from.now ≡ Some c.in-Ok.at) (sym c.self.view_is) c.in-Ok.ensures.0 in
    events-set c.self.inside.entries.items c.args.from.now c.in-Ok.at c.index_mut.result.now c.add.new.tally there c.index_mut.ensures.value c.add.ensures.from c.add.ensures.events u
    ∙ ap (λ (b : TallyBook). events_from b.tallies u + (if c.args.from.now == u then 1 else 0)) c.self.view_is

pub returns-in-Ok-clause-bytes : goal.returns-in-Ok-clause-bytes
returns-in-Ok-clause-bytes c = λ u.
    let there = subst (λ (b : TallyBook). index_in (tallied_names b.tallies) c.args.from.now ≡ Some c.in-Ok.at) (sym c.self.view_is) c.in-Ok.ensures.0 in
    bytes-set c.args.size c.self.inside.entries.items c.args.from.now c.in-Ok.at c.index_mut.result.now c.add.new.tally there c.index_mut.ensures.value c.add.ensures.from c.add.ensures.bytes u
    ∙ ap (λ (b : TallyBook). bytes_from b.tallies u + (if c.args.from.now == u then c.args.size else 0)) c.self.view_is

-- it has none
pub invariant_of-self-in-Ok-insert : goal.invariant_of-self-in-Ok-insert
invariant_of-self-in-Ok-insert c =
    let tally : Tally = record { from = c.args.from.now; events = 1; bytes = c.args.size } in
    let up = subst (λ (b : TallyBook). IsAscending (insert (tallied_names b.tallies) c.in-Err.at c.args.from.now)) (sym c.self.view_is) c.in-Err.ensures.2 in
    subst (λ (ts : List Tally). IsAscending (tallied_names ts)) (sym c.in-Ok-insert.ensures.items) (keys-insert (λ (t : Tally). t.from) c.self.inside.entries.items c.in-Err.at tally up)

pub returns-in-Ok-insert-clause-events : goal.returns-in-Ok-insert-clause-events
returns-in-Ok-insert-clause-events c = λ u.
    let tally : Tally = record { from = c.args.from.now; events = 1; bytes = c.args.size } in
    let missing = subst (λ (b : TallyBook). index_in (tallied_names b.tallies) c.args.from.now ≡ None) (sym c.self.view_is) c.in-Err.ensures.0 in
    ap (λ (ts : List Tally). events_from ts u) c.in-Ok-insert.ensures.items
    ∙ events-insert c.self.inside.entries.items c.args.from.now c.in-Err.at tally missing refl refl u
    ∙ ap (λ (b : TallyBook). events_from b.tallies u + (if c.args.from.now == u then 1 else 0)) c.self.view_is

pub returns-in-Ok-insert-clause-bytes : goal.returns-in-Ok-insert-clause-bytes
returns-in-Ok-insert-clause-bytes c = λ u.
    let tally : Tally = record { from = c.args.from.now; events = 1; bytes = c.args.size } in
    let missing = subst (λ (b : TallyBook). index_in (tallied_names b.tallies) c.args.from.now ≡ None) (sym c.self.view_is) c.in-Err.ensures.0 in
    ap (λ (ts : List Tally). bytes_from ts u) c.in-Ok-insert.ensures.items
    ∙ bytes-insert c.args.size c.self.inside.entries.items c.args.from.now c.in-Err.at tally missing refl refl u
    ∙ ap (λ (b : TallyBook). bytes_from b.tallies u + (if c.args.from.now == u then c.args.size else 0)) c.self.view_is
