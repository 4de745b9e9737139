-- An event at another slot, with all that the others hear of it, comes to the same without a slot that is erased.
use Rattle.std.specs.List.{AllByRecursion}
use Rattle.std.specs.Prelude.{◌≡◌, ◌⊎◌, ◌++◌, ◌∷◌, [], ◌==◌, ℕ, Bool, true, false, List, Option, Some, None, option_map, if◌then◌else◌, not}
use Rattle.std.proofs.Common.{◌∙◌, refl, sym, ap, subst, inl, inr}
use Rattle.scp_types.specs.declared.event.NodeEvent.TheVariants.{Take, NominationTimer, BallotTimer}
use Rattle.scp_types.specs.declared.event.Out.{Out}
use Rattle.scp_types.specs.declared.event.Refusal.{Refusal}
use Rattle.scp_types.specs.declared.event.Refusal.TheVariants.{BadEnvelope, NoMemory, NoSuchNode}
use Rattle.scp_spec.specs.Networks.{Net, Reply, Step, effect, emissions, first_that, net_step, source, tests, is_hosted}
use Rattle.scp_spec.specs.Networks.Reading.{Fault, Read}
use Rattle.scp_spec.specs.Networks.Reply.{Done, Refused}
use Rattle.scp_spec.specs.Networks.Step.{BallotTimerFires, Closes, Delivers, Hears, NominationTimerFires, Opens, Proposes, Reslices}
use Rattle.host_config.specs.Configs.{names_of}
use Rattle.host_network.specs.Marks.{emitted_at, emitted_before, marks_in, named, numbers_by_kind, slot_and_node_of}
use Rattle.host_network.specs.Standing.{IsDeliveryThatTakesMemory}
use Rattle.live_network.specs.Serving.{AreHeard, Ending, Hearing, IsServed, IsTried, ToldReply, all_hearings, is_left, is_stale, slot_at, step_of_hearing, told_at, told_of, waits_after}
use Rattle.live_network.specs.Serving.AreHeard.{all_heard, one_heard}
use Rattle.live_network.specs.Serving.Ending.{IsDone, IsRefused}
use Rattle.live_network.specs.Serving.IsServed.{done, refused}
use Rattle.live_network.specs.Serving.IsTried.{stepped, wanting}
use Rattle.live_feed.specs.declared.answering.Drawn.{Drawn}
use Rattle.live_host.specs.Erasing.{AreToldAs, ErasedNetsRefuseEventsAlike, ErasedNetsServeAlike, EventsThereAreErased, HasRoomForMore, IsEnough, IsErased, is_step_at, opens_slot}
use Rattle.live_host.specs.Erasing.AreToldAs.{none_told, told_so, wanting_so}
use Rattle.live_host.proofs.ErasedNets.{effect-erased, erased_nets_refuse_alike, erased_nets_step_alike, node-there, passed-tests, step-passed, step-refused, refused-tests}
use Rattle.live_host.proofs.ErasedReasons.{hears-refused, is_full_for, reason_without, refused-as}
use Rattle.live_host.proofs.ErasedThere.{Grows, HappensAt, erased-there, grows-not, grows-on, happens-on, nothing-happens, room-before, step-grows, step-happens}

-- ---- steps that are tried
-- a step that is tried is the network's, or memory is wanting
tried-cases : {old : Net} {e : Step} {r : Reply} {new : Net} → IsTried old e r new
    → ((r ≡ (net_step old e).1) × (new ≡ (net_step old e).0))
    ⊎ ((r ≡ Refused NoMemory) × (new ≡ old) × ((first_that (tests old e) ≡ None) ⊎ IsDeliveryThatTakesMemory old.nodes e))
tried-cases stepped = inl (refl, refl)
tried-cases (wanting why) = inr (refl, refl, why)

tried-grows : {old : Net} {e : Step} {r : Reply} {new : Net} → IsTried old e r new → Grows old new
tried-grows {old} {e} stepped = step-grows old e
tried-grows {old} (wanting why) = grows-not old

heard-grows : {j : ℕ} {hs : List Hearing} {old : Net} {told : List ToldReply} {new : Net}
    → AreHeard j hs old told new → Grows old new
heard-grows {old = net} all_heard = grows-not net
heard-grows {old = net} {new = after} (one_heard {now} r tried others) =
    grows-on net now after (tried-grows tried) (heard-grows others)

-- what nobody is to hear is told nobody
pub heard-none : {j : ℕ} {hs : List Hearing} {old : Net} {told : List ToldReply} {new : Net} → AreHeard j hs old told new
    → hs ≡ [] → (told ≡ []) × (new ≡ old)
heard-none all_heard is = (refl, refl)
heard-none (one_heard r tried others) is = cc

-- openings and closings are heard by nobody, and all other events that are done at their slot
heard-where : (i : ℕ) (net : Net) (e : Step) (os : List Out) (b : Bool) → (net_step net e).1 ≡ Done os → is_step_at i e ≡ b
    → (waits_after net e (Done os) ≡ []) ⊎ ((i == slot_at (slot_and_node_of e)) ≡ b)
unfolding effect
heard-where i net (Opens j) os b is at =
    let none : Done [] ≡ Done os = sym (ap (λ x. x.1) (step-passed net (Opens j) (passed-tests net (Opens j) os is))) ∙ is in
    let no_outs : os ≡ [] = cc in
    inl (ap (λ outs. waits_after net (Opens j) (Done outs)) no_outs)
heard-where i net (Closes j) os b is at =
    let none : Done [] ≡ Done os = sym (ap (λ x. x.1) (step-passed net (Closes j) (passed-tests net (Closes j) os is))) ∙ is in
    let no_outs : os ≡ [] = cc in
    inl (ap (λ outs. waits_after net (Closes j) (Done outs)) no_outs)
heard-where i net (Proposes j u x) os b is at = inr at
heard-where i net (Delivers u size (Read e)) os b is at = inr at
heard-where i net (Delivers u size (Fault n)) os b is at =
    by (is_hosted net u) (passed-tests net (Delivers u size (Fault n)) os is)
  where
    by : (hosts : Bool) → (if not hosts then Some NoSuchNode else Some (BadEnvelope n)) ≡ None
        → (waits_after net (Delivers u size (Fault n)) (Done os) ≡ []) ⊎ ((i == 0) ≡ b)
    by true none = cc
    by false none = cc
heard-where i net (Hears j u from kind k) os b is at = inr at
heard-where i net (NominationTimerFires j u r) os b is at = inr at
heard-where i net (BallotTimerFires j u n) os b is at = inr at
heard-where i net (Reslices j u q) os b is at = inr at

-- ---- events at the slot
tried-there : (i : ℕ) {old : Net} {e : Step} {r : Reply} {new : Net} → is_step_at i e ≡ true → IsTried old e r new
    → HappensAt i old new
tried-there i {old} {e} on stepped = step-happens i old e on
tried-there i {old} on (wanting why) = nothing-happens i old

heard-there : (i : ℕ) {j : ℕ} {hs : List Hearing} {old : Net} {told : List ToldReply} {new : Net} → (i == j) ≡ true
    → AreHeard j hs old told new → HappensAt i old new
heard-there i {old = net} on all_heard = nothing-happens i net
heard-there i {old = net} {new = after} on (one_heard {now} r tried others) =
    happens-on i net now after (tried-there i on tried) (heard-there i on others)

-- what the first step of an event that is done comes to
pub stepped-to : (old : Net) (e : Step) (os : List Out) (new : Net) → IsTried old e (Done os) new
    → ((net_step old e).1 ≡ Done os) × (new ≡ (net_step old e).0)
stepped-to old e os new tried = by (tried-cases tried)
  where
    by : ((Done os ≡ (net_step old e).1) × (new ≡ (net_step old e).0))
        ⊎ ((Done os ≡ Refused NoMemory) × (new ≡ old) × ((first_that (tests old e) ≡ None) ⊎ IsDeliveryThatTakesMemory old.nodes e))
        → ((net_step old e).1 ≡ Done os) × (new ≡ (net_step old e).0)
    by (inl (is, so)) = (sym is, so)
    by (inr (is, so, why)) = cc

pub served-happens : (i : ℕ) {net : Net} {e : Step} {ending : Ending} {told : List ToldReply} {after : Net}
    → is_step_at i e ≡ true → IsServed net e ending told after → HappensAt i net after
served-happens i {net} on (refused r tried) = nothing-happens i net
served-happens i {net} {e} {after = after} on (done {now} {told} os tried heard) =
    happens-on i net now after (tried-there i on tried)
    (by (heard-where i net e os true (stepped-to net e os now tried).0 on))
  where
    by : (waits_after net e (Done os) ≡ []) ⊎ ((i == slot_at (slot_and_node_of e)) ≡ true) → HappensAt i now after
    by (inl none) = subst (HappensAt i now) (sym (heard-none heard none).1) (nothing-happens i now)
    by (inr at) = heard-there i at heard

pub events_there_are_erased : EventsThereAreErased
events_there_are_erased i rest lost net left e ending told after on served h =
    erased-there i rest lost net after left (served-happens i on served) h

-- ---- events at other slots
module _ (i : ℕ) (rest lost : Drawn) (net left : Net) (h : IsErased i rest lost net left) where
  emitted-same : (e : Step) → is_step_at i e ≡ false
      → emitted_before left (slot_and_node_of e) ≡ emitted_before net (slot_and_node_of e)
  emitted-same (Opens j) off = refl
  emitted-same (Closes j) off = refl
  emitted-same (Proposes j u x) off = ap emitted_at (node-there i rest lost net left h j u off)
  emitted-same (Delivers u size (Read e)) off = ap emitted_at (node-there i rest lost net left h e.slot u off)
  emitted-same (Delivers u size (Fault n)) off = refl
  emitted-same (Hears j u from kind k) off = ap emitted_at (node-there i rest lost net left h j u off)
  emitted-same (NominationTimerFires j u r) off = ap emitted_at (node-there i rest lost net left h j u off)
  emitted-same (BallotTimerFires j u n) off = ap emitted_at (node-there i rest lost net left h j u off)
  emitted-same (Reslices j u q) off = ap emitted_at (node-there i rest lost net left h j u off)

  marks-same : (e : Step) → is_step_at i e ≡ false → marks_in left e ≡ marks_in net e
  marks-same e off =
      ap (λ es. numbers_by_kind es (emissions (effect left e).1)) (emitted-same e off)
      ∙ ap (λ os. numbers_by_kind (emitted_before net (slot_and_node_of e)) (emissions os))
      (effect-erased i rest lost net left h e off).1

  waits-same : (e : Step) (r : Reply) → is_step_at i e ≡ false → waits_after left e r ≡ waits_after net e r
  waits-same e (Done os) off =
      ap (λ hs. all_hearings (names_of hs) (named (emissions os) (marks_in left e))) h.nodes
      ∙ ap (λ marks. all_hearings (names_of net.nodes) (named (emissions os) marks)) (marks-same e off)
  waits-same e (Refused r) off = ap (λ hs. all_hearings (names_of hs) []) h.nodes

  stale-same : (e : Step) → is_step_at i e ≡ false → is_stale left e ≡ is_stale net e
  stale-same (Opens j) off = refl
  stale-same (Closes j) off = refl
  stale-same (Proposes j u x) off = refl
  stale-same (Delivers u size (Read e)) off =
      ap (λ o. is_left (option_map (λ p. p.node) o) (Take e)) (node-there i rest lost net left h e.slot u off)
  stale-same (Delivers u size (Fault n)) off = refl
  stale-same (Hears j u from kind k) off = refl
  stale-same (NominationTimerFires j u r) off =
      ap (λ o. is_left (option_map (λ p. p.node) o) (NominationTimer r)) (node-there i rest lost net left h j u off)
  stale-same (BallotTimerFires j u n) off =
      ap (λ o. is_left (option_map (λ p. p.node) o) (BallotTimer n)) (node-there i rest lost net left h j u off)
  stale-same (Reslices j u q) off = refl

-- a reply is the same, or memory was wanting, and it is a refusal
abbrev IsReplyAs : Reply → Reply → Type 0
IsReplyAs r s = (s ≡ r) ⊎ ((r ≡ Refused NoMemory) × ((x : Refusal) × (s ≡ Refused x)))

told-as-it : (u : ℕ) (r : Reply) {ts ss : List ToldReply} → AreToldAs ts ss → AreToldAs (told_of u r ++ ts) (told_of u r ++ ss)
told-as-it u (Done []) so = so
told-as-it u (Done (o ∷ os)) so = told_so (record { node = u; reply = Done (o ∷ os) }) so
told-as-it u (Refused r) so = told_so (record { node = u; reply = Refused r }) so

told-as : (u : ℕ) (r s : Reply) {ts ss : List ToldReply} → IsReplyAs r s → AreToldAs ts ss
    → AreToldAs (told_of u r ++ ts) (told_of u s ++ ss)
told-as u r s {ts} {ss} (inl is) so =
    subst (λ x. AreToldAs (told_of u r ++ ts) (told_of u x ++ ss)) (sym is) (told-as-it u r so)
told-as u r s {ts} {ss} (inr (is, (x, too))) so =
    subst (λ y. AreToldAs (told_of u y ++ ts) (told_of u s ++ ss)) (sym is)
    (subst (λ y. AreToldAs (told_of u (Refused NoMemory) ++ ts) (told_of u y ++ ss)) (sym too) (wanting_so u x so))

-- a hearing, where the slot is erased
record IsHeardToo (i : ℕ) (rest lost : Drawn) (j : ℕ) (a : Hearing) (now left : Net) (r : Reply) : Type 0 where
  reply : Reply
  next : Net
  alike : IsReplyAs r reply
  tried : IsTried left (step_of_hearing j a) reply next
  erased : IsErased i rest lost now next

hear-too : (i : ℕ) (rest lost : Drawn) (j : ℕ) (a : Hearing) {old : Net} (left : Net) {now : Net} {r : Reply}
    → (i == j) ≡ false → IsErased i rest lost old left → HasRoomForMore rest now → IsTried old (step_of_hearing j a) r now
    → IsHeardToo i rest lost j a now left r
hear-too i rest lost j a {old} left off h room stepped = by (net_step old (step_of_hearing j a)).1 refl
  where
    by : (y : Reply) → (net_step old (step_of_hearing j a)).1 ≡ y
        → IsHeardToo i rest lost j a (net_step old (step_of_hearing j a)).0 left (net_step old (step_of_hearing j a)).1
    by (Done os) is =
        let too = erased_nets_step_alike i rest lost old left (step_of_hearing j a) os h off is room in
        record {
          reply = (net_step left (step_of_hearing j a)).1;
          next = (net_step left (step_of_hearing j a)).0;
          alike = inl (too.0 ∙ sym is);
          tried = stepped;
          erased = too.1;
        }
    by (Refused x) is =
        let first = refused-tests old (step_of_hearing j a) x is in
        let step = step-refused old (step_of_hearing j a) x first in
        let too = step-refused left (step_of_hearing j a) x
        (hears-refused i rest lost old left h j a.node a.emission.from a.emission.kind a.emission.number x off first) in
        record {
          reply = (net_step left (step_of_hearing j a)).1;
          next = (net_step left (step_of_hearing j a)).0;
          alike = inl (ap (λ y. y.1) too ∙ sym is);
          tried = stepped;
          erased = subst (λ y. IsErased i rest lost y.0 (net_step left (step_of_hearing j a)).0) (sym step)
              (subst (λ y. IsErased i rest lost old y.0) (sym too) h);
        }
hear-too i rest lost j a {old} left off h room (wanting (inl none)) =
    by (first_that (tests left (step_of_hearing j a))) refl
  where
    by : (o : Option Refusal) → first_that (tests left (step_of_hearing j a)) ≡ o
        → IsHeardToo i rest lost j a old left (Refused NoMemory)
    by None is = record { reply = Refused NoMemory; next = left; alike = inl refl; tried = wanting (inl is); erased = h }
    by (Some x) is = record {
      reply = Refused x;
      next = left;
      alike = inr (refl, (x, refl));
      tried = subst (λ y. IsTried left (step_of_hearing j a) y.1 y.0) (step-refused left (step_of_hearing j a) x is) stepped;
      erased = h;
    }
hear-too i rest lost j a left off h room (wanting (inr read)) = absurd read

-- what waits after it is the same
waits-too : (i : ℕ) (rest lost : Drawn) (old left : Net) (e : Step) (r s : Reply) → IsErased i rest lost old left
    → is_step_at i e ≡ false → IsReplyAs r s → waits_after left e s ≡ waits_after old e r
waits-too i rest lost old left e r s h off (inl is) =
    ap (waits_after left e) is ∙ waits-same i rest lost old left h e r off
waits-too i rest lost old left e r s h off (inr (is, (x, so))) =
    ap (waits_after left e) so ∙ waits-same i rest lost old left h e (Refused x) off ∙ ap (waits_after old e) (sym is)

-- all hearings of an event, where the slot is erased
abbrev AreHeardToo : ℕ → Drawn → Drawn → ℕ → List Hearing → List ToldReply → Net → Net → Type 0
AreHeardToo i rest lost j hs told left after =
    (told_too : List ToldReply) × (after_too : Net) × AreToldAs told told_too × AreHeard j hs left told_too after_too
    × IsErased i rest lost after after_too

heard-too : (i : ℕ) (rest lost : Drawn) {j : ℕ} {hs : List Hearing} {old : Net} {told : List ToldReply} {after : Net}
    (left : Net) → (i == j) ≡ false → IsErased i rest lost old left → HasRoomForMore rest after
    → AreHeard j hs old told after → AreHeardToo i rest lost j hs told left after
heard-too i rest lost left off h room all_heard = ([], left, none_told, all_heard, h)
heard-too i rest lost {j} {after = after} left off h room (one_heard {h = a} {hs} {old} {now} {told} r tried others) =
    let here = hear-too i rest lost j a left off h
    (room-before rest now after (heard-grows others) room) tried in
    let more = heard-too i rest lost here.next off here.erased room others in (
      told_of a.node here.reply ++ more.0,
      more.1,
      told-as a.node r here.reply here.alike more.2,
      one_heard here.reply here.tried
          (subst (λ ws. AreHeard j (hs ++ ws) here.next more.0 more.1)
          (sym (waits-too i rest lost old left (step_of_hearing j a) r here.reply h off here.alike)) more.3),
      more.4,
    )

told-at-as : (at : Option (ℕ × ℕ)) (os : List Out) {ts ss : List ToldReply} → AreToldAs ts ss
    → AreToldAs (told_at at os ++ ts) (told_at at os ++ ss)
told-at-as None os so = so
told-at-as (Some at) os so = told-as-it at.1 (Done os) so

-- the hearings of an event that is done, where the slot is erased
event-heard-too : (i : ℕ) (rest lost : Drawn) (net now left now_left : Net) (e : Step) (os : List Out) {told : List ToldReply}
    {after : Net} → IsErased i rest lost net left → IsErased i rest lost now now_left → is_step_at i e ≡ false
    → HasRoomForMore rest after → AreHeard (slot_at (slot_and_node_of e)) (waits_after net e (Done os)) now told after
    → (waits_after net e (Done os) ≡ []) ⊎ ((i == slot_at (slot_and_node_of e)) ≡ false)
    → AreHeardToo i rest lost (slot_at (slot_and_node_of e)) (waits_after left e (Done os)) told now_left after
event-heard-too i rest lost net now left now_left e os {told} {after} h here off room heard (inl none) =
    let nothing = heard-none heard none in
    let waits : waits_after left e (Done os) ≡ [] = waits-same i rest lost net left h e (Done os) off ∙ none in (
      [],
      now_left,
      subst (λ ts. AreToldAs ts []) (sym nothing.0) none_told,
      subst (λ ws. AreHeard (slot_at (slot_and_node_of e)) ws now_left [] now_left) (sym waits) all_heard,
      subst (λ n. IsErased i rest lost n now_left) (sym nothing.1) here,
    )
event-heard-too i rest lost net now left now_left e os {told} {after} h here off room heard (inr at) =
    subst (λ ws. AreHeardToo i rest lost (slot_at (slot_and_node_of e)) ws told now_left after)
    (sym (waits-same i rest lost net left h e (Done os) off)) (heard-too i rest lost now_left at here room heard)

abbrev AreServedToo : ℕ → Drawn → Drawn → Step → Bool → List ToldReply → Net → Net → Type 0
AreServedToo i rest lost e stale told left after =
    (told_too : List ToldReply) × (after_too : Net) × AreToldAs told told_too × IsServed left e (IsDone stale) told_too after_too
    × IsErased i rest lost after after_too

-- what a served event is, if it is done
record IsDoneSo (net : Net) (e : Step) (stale : Bool) (told : List ToldReply) (after : Net) : Type 0 where
  outs : List Out
  now : Net
  more : List ToldReply
  tried : IsTried net e (Done outs) now
  heard : AreHeard (slot_at (slot_and_node_of e)) (waits_after net e (Done outs)) now more after
  told_is : told ≡ told_at (slot_and_node_of e) outs ++ more
  stale_is : stale ≡ is_stale net e

done-so : {net : Net} {e : Step} {ending : Ending} {told : List ToldReply} {after : Net} → IsServed net e ending told after
    → (stale : Bool) → ending ≡ IsDone stale → IsDoneSo net e stale told after
done-so (refused r tried) stale is = cc
done-so (done {now} {told} os tried heard) stale is =
    record { outs = os; now = now; more = told; tried = tried; heard = heard; told_is = refl; stale_is = cc }

done-too : (i : ℕ) (rest lost : Drawn) (net left : Net) (e : Step) (stale : Bool) (told : List ToldReply) (after : Net)
    (d : IsDoneSo net e stale told after) → (net_step left e).1 ≡ Done d.outs → is_stale left e ≡ stale
    → AreHeardToo i rest lost (slot_at (slot_and_node_of e)) (waits_after left e (Done d.outs)) d.more (net_step left e).0
    after
    → AreServedToo i rest lost e stale told left after
done-too i rest lost net left e stale told after d is stale_is more = (
  told_at (slot_and_node_of e) d.outs ++ more.0,
  more.1,
  subst (λ ts. AreToldAs ts (told_at (slot_and_node_of e) d.outs ++ more.0)) (sym d.told_is)
      (told-at-as (slot_and_node_of e) d.outs {ts = d.more} {ss = more.0} more.2),
  subst (λ b. IsServed left e (IsDone b) (told_at (slot_and_node_of e) d.outs ++ more.0) more.1) stale_is
      (done {told = more.0} d.outs (subst (λ r. IsTried left e r (net_step left e).0) is stepped) more.3),
  more.4,
)

pub erased_nets_serve_alike : ErasedNetsServeAlike
erased_nets_serve_alike i rest lost net left e stale told after h off served room =
    let d = done-so served stale refl in
    let first = stepped-to net e d.outs d.now d.tried in
    let room_then = room-before rest d.now after (heard-grows d.heard) room in
    let step = erased_nets_step_alike i rest lost net left e d.outs h off first.0
    (subst (HasRoomForMore rest) first.1 room_then) in
    let here = subst (λ n. IsErased i rest lost n (net_step left e).0) (sym first.1) step.1 in
    done-too i rest lost net left e stale told after d step.0 (stale-same i rest lost net left h e off ∙ sym d.stale_is)
    (event-heard-too i rest lost net d.now left (net_step left e).0 e d.outs h here off room d.heard
    (heard-where i net e d.outs false first.0 off))

-- what a served event is, if it is refused
record IsRefusedSo (net : Net) (e : Step) (r : Refusal) (told : List ToldReply) (after : Net) : Type 0 where
  after_is : after ≡ net
  told_is : told ≡ []
  tried : IsTried net e (Refused r) net

refused-so : {net : Net} {e : Step} {ending : Ending} {told : List ToldReply} {after : Net} → IsServed net e ending told after
    → (r : Refusal) → ending ≡ IsRefused r → IsRefusedSo net e r told after
refused-so {net} {e} (refused x tried) r is =
    let why : x ≡ r = cc in
    record { after_is = refl; told_is = refl; tried = subst (λ y. IsTried net e (Refused y) net) why tried }
refused-so (done os tried heard) r is = cc

pub erased_nets_refuse_events_alike : ErasedNetsRefuseEventsAlike
erased_nets_refuse_events_alike i rest lost net left e r told after h off kept served =
    let so = refused-so served r refl in
    (so.after_is, so.told_is, by (tried-cases so.tried))
  where
    refuses : (x : Refusal) → net_step left e ≡ (left, Refused x) → IsServed left e (IsRefused x) [] left
    refuses x is = refused x (subst (λ y. IsTried left e y.1 y.0) is stepped)

    wants : (o : Option Refusal) → first_that (tests left e) ≡ o
        → (other : Refusal) × IsServed left e (IsRefused other) [] left
    wants None none = (NoMemory, refused NoMemory (wanting (inl none)))
    wants (Some x) is = (x, refuses x (step-refused left e x is))

    by : ((Refused r ≡ (net_step net e).1) × (net ≡ (net_step net e).0))
        ⊎ ((Refused r ≡ Refused NoMemory) × (net ≡ net) × ((first_that (tests net e) ≡ None) ⊎ IsDeliveryThatTakesMemory net.nodes e))
        → (other : Refusal) × IsServed left e (IsRefused other) [] left
    by (inl (is, so)) =
        let too = erased_nets_refuse_alike i rest lost net left e r h off kept (sym is) in
        (too.1.0, refuses too.1.0 too.1.1)
    by (inr (is, so, inl none)) = wants (first_that (tests left e)) refl
    by (inr (is, so, inr read)) =
        (NoMemory, refused NoMemory (wanting (inr (subst (λ hs. IsDeliveryThatTakesMemory hs e) (sym h.nodes) read))))

-- where memory sufficed, one that is refused is refused for this reason
pub refused-by : (i : ℕ) (rest lost : Drawn) (net left : Net) (h : IsErased i rest lost net left) (e : Step) (r : Refusal)
    (told : List ToldReply) (after : Net) → is_step_at i e ≡ false → opens_slot e ≡ false
    → IsServed net e (IsRefused r) told after → (r ≡ NoMemory → ⊥)
    → (after ≡ net) × (told ≡ [])
    × IsServed left e (IsRefused (reason_without (is_full_for (source left.roster e) e left.events left.budgets.events) r)) []
    left
refused-by i rest lost net left h e r told after off kept served enough =
    let so = refused-so served r refl in
    (so.after_is, so.told_is, by (tried-cases so.tried))
  where
    by : ((Refused r ≡ (net_step net e).1) × (net ≡ (net_step net e).0))
        ⊎ ((Refused r ≡ Refused NoMemory) × (net ≡ net) × ((first_that (tests net e) ≡ None) ⊎ IsDeliveryThatTakesMemory net.nodes e))
        → IsServed left e
        (IsRefused (reason_without (is_full_for (source left.roster e) e left.events left.budgets.events) r)) [] left
    by (inl (is, so)) =
        let other : Refusal = reason_without (is_full_for (source left.roster e) e left.events left.budgets.events) r in
        let too = refused-as i rest lost net left h e r off kept (refused-tests net e r (sym is)) in
        refused other (subst (λ y. IsTried left e y.1 y.0) (step-refused left e other too) stepped)
    by (inr (is, so, why)) = let none : r ≡ NoMemory = cc in absurd (enough none)

-- where memory sufficed, the same is told
pub told-same : {ts ss : List ToldReply} → AreToldAs ts ss → AllByRecursion IsEnough ts → ss ≡ ts
told-same none_told enough = refl
told-same (told_so t others) enough = ap (λ rest. t ∷ rest) (told-same others enough.1)
told-same (wanting_so u r others) enough = absurd (enough.0 refl)

-- no count falls
pub served-grows : {net : Net} {e : Step} {ending : Ending} {told : List ToldReply} {after : Net}
    → IsServed net e ending told after → Grows net after
served-grows {net} (refused r tried) = grows-not net
served-grows {net} {after = after} (done {now} os tried heard) =
    grows-on net now after (tried-grows tried) (heard-grows heard)
