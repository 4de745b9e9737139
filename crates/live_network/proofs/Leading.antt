-- What hearings lead to, one after the other.
use Rattle.std.proofs.Common.{◌≡◌, ◌∙◌, ◌==◌, ◌++◌, ◌+◌, ◌↔◌, OnOk, ℕ, Bool, true, false, not, List, [], ◌∷◌, map, filter, take, Option, Some, None, Result, Ok, Err, IsTrue, refl, sym, ap, subst, subst₂, inl, inr, ⊎_elim, append_assoc, append-nil}
use Rattle.std.proofs.lemmas.Bool.{eq-eqb, eqb-true, false≢true}
use Rattle.std.proofs.lemmas.Grind.{flat_map-append}
use Rattle.std.proofs.lemmas.List.{map-append}
use Rattle.std.proofs.lemmas.List.Elements.{filter-append}
use Rattle.scp_types.specs.declared.event.Event.{Event}
use Rattle.scp_types.specs.declared.event.Event.TheVariants.{Hear}
use Rattle.scp_types.specs.declared.event.Out.{Out}
use Rattle.scp_types.specs.declared.event.Refusal.{Refusal}
use Rattle.scp_spec.specs.Hosts.{Config}
use Rattle.scp_spec.specs.Networks.{HostedNode, Net, Reply, Step, effect, emissions, first_that, net_step, state_and_reply, tests}
use Rattle.scp_spec.specs.Networks.Reply.{Done, Refused}
use Rattle.scp_spec.specs.Networks.Step.{Opens, Closes, Proposes, Delivers, Hears, NominationTimerFires, BallotTimerFires, Reslices}
use Rattle.scp_spec.specs.Networks.Reading.{Read, Fault}
use Rattle.host_config.specs.Configs.{names_of}
use Rattle.host_network.specs.declared.applied.Given.{Given}
use Rattle.host_network.specs.declared.emission.Emission.{Emission}
use Rattle.host_network.specs.Decoding.{step_of}
use Rattle.host_network.specs.Marks.{marks_in, named, slot_and_node_of}
use Rattle.host_network.specs.Standing.{IsRefusal, IsRightRefusal, IsDeliveryThatTakesMemory, IsStep, Machine, StandsFor}
use Rattle.live_network.specs.Serving.{AreHeard, Hearing, IsServed, IsTried, ToldReply, all_hearings, emissions_by, hearings_of, is_stale, slot_at, step_of_hearing, told_at, told_of, waits_after}
use Rattle.live_network.specs.Serving.AreHeard.{all_heard, one_heard}
use Rattle.live_network.specs.Serving.Ending.{IsDone}
use Rattle.live_network.specs.Serving.IsServed.{done, refused}
use Rattle.live_network.specs.Serving.IsTried.{stepped, wanting}
use Rattle.live_network.specs.Steps.{IsStepped, LeadsTo}
use Rattle.live_network.specs.Telling.{HaveHeard, IsHeardByAll, IsServedBy, IsToldAt, emissions_of, ending_by, ending_of, tellings_of}
use Rattle.live_network.specs.declared.hearing.Following.{Following}
use Rattle.live_network.specs.declared.served.Served.{Served}
use Rattle.live_network.specs.declared.stepping.Stepped.{Stepped}

-- ---- leading
pub leads-nowhere : (i : ℕ) (m : Machine) → LeadsTo i [] m [] [] m
leads-nowhere i m = λ net stands. (net, stands, λ hs rest after heard. subst (λ l. AreHeard i l net rest after) (append-nil hs) heard)

pub leads-both : (i : ℕ) (front behind : List Hearing) (old now new : Machine) (more later : List Hearing) (told next : List ToldReply) → LeadsTo i front old more told now
    → LeadsTo i behind now later next new → LeadsTo i (front ++ behind) old (more ++ later) (told ++ next) new
leads-both i front behind old now new more later told next one other = λ net stands.
    let first = one net stands in
    let second = other first.0 first.1 in (
      second.0,
      second.1,
      λ hs rest after heard.
          subst₂ (λ l t. AreHeard i l net t after) (sym (append_assoc front behind hs)) (sym (append_assoc told next rest))
          (first.2 (behind ++ hs) (next ++ rest) after
          (subst (λ l. AreHeard i l first.0 (next ++ rest) after) (sym (append_assoc behind hs more))
          (second.2 (hs ++ more) rest after
          (subst (λ l. AreHeard i l second.0 rest after) (sym (append_assoc hs more later)) heard)))),
    )

-- ---- one step
-- a refusal that no reading has a part in is a refusal
pub right_is : (m : Machine) (e : Step) (r : Refusal) → IsRightRefusal m e r → IsRefusal m e r
right_is m e r h = ⊎_elim (λ short. inl (short.0, inl short.1)) inr h

-- a refusal that is answered is one that the network answers, or memory is wanting
pub tried-refused : (m : Machine) (net : Net) (e : Step) (r : Refusal) → StandsFor m net → IsRefusal m e r → IsTried net e (Refused r) net
unfolding net_step
tried-refused m net e r stands h =
    ⊎_elim
    (λ (short : _). subst (λ x. IsTried net e (Refused x) net) (sym short.0)
    (wanting (⊎_elim (λ free. inl (free net stands)) (λ bytes. inr (subst (λ (n : Net). IsDeliveryThatTakesMemory n.nodes e) (sym stands.is) bytes)) short.1)))
    (λ is. go (first_that (tests net e)) refl (is net stands))
    h
  where
    go : (o : Option Refusal) → first_that (tests net e) ≡ o → o ≡ Some r → IsTried net e (Refused r) net
    go o at is =
        subst₂ (λ a b. IsTried net e a b) (ap (λ x. (state_and_reply net e x).1) (at ∙ is)) (ap (λ x. (state_and_reply net e x).0) (at ∙ is)) stepped

-- a step that is done is the network's
pub tried-done : (net : Net) (e : Step) (os : List Out) → (net_step net e).1 ≡ Done os → IsTried net e (Done os) (net_step net e).0
tried-done net e os is = subst (λ a. IsTried net e a (net_step net e).0) is stepped

-- what waits after a step of a network that the machine stands for, by the names of its nodes
waits-by : (m : Machine) (net : Net) (e : Step) (r : Reply) (es : List Emission) → StandsFor m net → emissions_by net e r ≡ es → waits_after net e r ≡ all_hearings (names_of m.config.nodes) es
waits-by m net e r es stands is =
    subst₂ (λ (ns : List HostedNode) (xs : List Emission). all_hearings (names_of net.nodes) (emissions_by net e r) ≡ all_hearings (names_of ns) xs) (ap (λ (n : Net). n.nodes) stands.is) is refl

-- a step was answered so, and has these emissions, for each network that the machine stands for
abbrev IsAnswered : Machine → Step → Reply → List Emission → Machine → Type 0
IsAnswered old e r es new = (net : Net) → StandsFor old net → (now : Net) × StandsFor new now × IsTried net e r now × (emissions_by net e r ≡ es)

-- one hearing that was tried leads to what it makes wait
leads-one : (i : ℕ) (h : Hearing) (old new : Machine) (r : Reply) (es : List Emission) → IsAnswered old (step_of_hearing i h) r es new → LeadsTo i (h ∷ []) old (all_hearings (names_of old.config.nodes) es) (told_of h.node r) new
leads-one i h old new r es tried = λ net stands.
    let t = tried net stands in (
      t.0,
      t.1,
      λ hs rest after heard.
          one_heard r t.2 (subst (λ l. AreHeard i (hs ++ l) t.0 rest after) (sym (waits-by old net (step_of_hearing i h) r es stands t.3)) heard),
    )

-- the answers of the code: it is the network's step, or it is refused and nothing changes
pub answered-done : (old new : Machine) (e : Step) (g : Given) → IsStep old e g.outs.items new → ((net : Net) → StandsFor old net → g.marks.items ≡ marks_in net e) → IsAnswered old e (Done g.outs.items) (emissions_of g) new
answered-done old new e g step marks = λ net stands.
    let s = step net stands in
    ((net_step net e).0, s.0, tried-done net e g.outs.items s.1, ap (λ ks. named (emissions g.outs.items) ks) (sym (marks net stands)))

pub answered-refused : (old new : Machine) (e : Step) (r : Refusal) → IsRefusal old e r → new ≡ old → IsAnswered old e (Refused r) [] new
answered-refused old new e r why same = λ net stands. (net, subst (λ m. StandsFor m net) (sym same) stands, tried-refused old net e r stands why, refl)

-- two facts of an answer that is right make a third one
pub on-both : {A E P Q R : Type 0} (a : Result A E) → OnOk a P → OnOk a Q → (P → Q → R) → OnOk a R
on-both (Ok x) p q f = f p q
on-both (Err e) p q f = tt

-- ---- what is noted
pub heard-nothing : (i : ℕ) (us : List ℕ) (m : Machine) (f : Following) → IsHeardByAll i us [] m f f m
heard-nothing i us m f = ([], [], sym (append-nil f.emissions.items), sym (append-nil (tellings_of f.told.items)), leads-nowhere i m)

pub heard-both : (i : ℕ) (us : List ℕ) (front behind : List Hearing) (old now new : Machine) (f g h : Following) → IsHeardByAll i us front old f g now → IsHeardByAll i us behind now g h new → IsHeardByAll i us (front ++ behind) old f h new
heard-both i us front behind old now new f g h one other = (
  one.0 ++ other.0,
  one.1 ++ other.1,
  other.2 ∙ ap (λ l. l ++ other.0) one.2 ∙ append_assoc f.emissions.items one.0 other.0,
  other.3 ∙ ap (λ l. l ++ other.1) one.3 ∙ append_assoc (tellings_of f.told.items) one.1 other.1,
  subst (λ l. LeadsTo i (front ++ behind) old l (one.1 ++ other.1) new) (sym (flat_map-append (hearings_of us) one.0 other.0))
      (leads-both i front behind old now new (all_hearings us one.0) (all_hearings us other.0) one.1 other.1 one.4 other.4),
)

-- a node does not hear its own emission
own : (e : Emission) (u : ℕ) (b : Bool) → (u == e.from) ≡ b → b ≡ true → hearings_of (u ∷ []) e ≡ []
own e u true is same = rw is refl
own e u false is same = cc

another : (e : Emission) (u : ℕ) (b : Bool) → (u == e.from) ≡ b → (b ≡ true → ⊥) → hearings_of (u ∷ []) e ≡ record { node = u; emission = e } ∷ []
another e u true is other = absurd (other refl)
another e u false is other = rw is refl

pub hears-not-its-own : (i : ℕ) (us : List ℕ) (e : Emission) (u : ℕ) (m : Machine) (f : Following) (same : Bool) → (IsTrue same ↔ (u ≡ e.from)) → same ≡ true → IsHeardByAll i us (hearings_of (u ∷ []) e) m f f m
hears-not-its-own i us e u m f same law is =
    subst (λ l. IsHeardByAll i us l m f f m) (sym (own e u (u == e.from) refl (eq-eqb u e.from (law.0 is)))) (heard-nothing i us m f)

-- another node's hearing was answered, and noted
pub hears-another : (i : ℕ) (e : Emission) (u : ℕ) (old new : Machine) (f g : Following) (event : Event) (r : Reply) (es : List Emission) (same : Bool) → (IsTrue same ↔ (u ≡ e.from)) → same ≡ false
    → event ≡ Hear i u e.from e.kind e.number → IsAnswered old (step_of event) r es new → g.emissions.items ≡ f.emissions.items ++ es → tellings_of g.told.items ≡ tellings_of f.told.items ++ told_of u r
    → IsHeardByAll i (names_of old.config.nodes) (hearings_of (u ∷ []) e) old f g new
hears-another i e u old new f g event r es same law other is answer emitted told =
    let h : Hearing = record { node = u; emission = e } in
    subst (λ l. IsHeardByAll i (names_of old.config.nodes) l old f g new)
    (sym (another e u (u == e.from) refl (λ k. false≢true (sym other ∙ law.1 (eqb-true u e.from k)))))
    (es, told_of u r, emitted, told, leads-one i h old new r es (subst (λ (x : Event). IsAnswered old (step_of x) r es new) is answer))

-- the names up to the next one
pub hearings-more : (us : List ℕ) (k u : ℕ) (e : Emission) → take (k + 1) us ≡ take k us ++ u ∷ [] → hearings_of (take (k + 1) us) e ≡ hearings_of (take k us) e ++ hearings_of (u ∷ []) e
hearings-more us k u e is =
    ap (λ l. hearings_of l e) is
    ∙ ap (λ l. map {B = Hearing} (λ v. record { node = v; emission = e }) l) (filter-append (λ v. not (v == e.from)) (take k us) (u ∷ []))
    ∙ map-append (λ v. record { node = v; emission = e }) (filter (λ v. not (v == e.from)) (take k us)) (filter (λ v. not (v == e.from)) (u ∷ []))

-- ---- all that wait
-- from the start on, what waits and these hearings in front of it come to this
abbrev pub ComesTo : ℕ → List ℕ → List Emission → Machine → List Emission → List ToldReply → Machine → Type 0
ComesTo i us es old left told now =
    (net : Net) → StandsFor old net → (after : Net) × StandsFor now after
    × ((rest : List ToldReply) (end : Net) → AreHeard i (all_hearings us left) after rest end → AreHeard i (all_hearings us es) net (told ++ rest) end)

pub comes-next : (i : ℕ) (us : List ℕ) (es : List Emission) (old now new : Machine) (e : Emission) (left more : List Emission) (told next : List ToldReply) → ComesTo i us es old (e ∷ left) told now
    → LeadsTo i (hearings_of us e) now (all_hearings us more) next new → ComesTo i us es old (left ++ more) (told ++ next) new
comes-next i us es old now new e left more told next before one = λ net stands.
    let b = before net stands in
    let o = one b.0 b.1 in (
      o.0,
      o.1,
      λ rest end heard.
          subst (λ t. AreHeard i (all_hearings us es) net t end) (sym (append_assoc told next rest))
          (b.2 (next ++ rest) end
          (o.2 (all_hearings us left) rest end
          (subst (λ l. AreHeard i l o.0 rest end) (flat_map-append (hearings_of us) left more) heard))),
    )

pub comes-to-all : (i : ℕ) (us : List ℕ) (es : List Emission) (old now : Machine) (told : List ToldReply) → ComesTo i us es old [] told now → HaveHeard i (all_hearings us es) old told now
comes-to-all i us es old now told all = λ net stands.
    let a = all net stands in
    (a.0, subst (λ t. AreHeard i (all_hearings us es) net t a.0) (append-nil told) (a.2 [] a.0 all_heard), a.1)

-- ---- an event
-- an event of no node gives nothing out
placeless-effect : (net : Net) (e : Step) → slot_and_node_of e ≡ None → (effect net e).1 ≡ []
unfolding effect
placeless-effect net (Opens i) none = refl
placeless-effect net (Closes i) none = refl
placeless-effect net (Delivers u size (Fault n)) none = refl
placeless-effect net (Delivers u size (Read x)) none = cc
placeless-effect net (Proposes i u x) none = cc
placeless-effect net (Hears i u from kind k) none = cc
placeless-effect net (NominationTimerFires i u r) none = cc
placeless-effect net (BallotTimerFires i u n) none = cc
placeless-effect net (Reslices i u q) none = cc

done-outs : (net : Net) (e : Step) (os : List Out) → (net_step net e).1 ≡ Done os → os ≡ (effect net e).1
unfolding net_step
done-outs net e os is = go (first_that (tests net e)) is
  where
    go : (o : Option Refusal) → (state_and_reply net e o).1 ≡ Done os → os ≡ (effect net e).1
    go None k = let z : (effect net e).1 ≡ os = cc in sym z
    go (Some r) k = absurd (cc)

pub served-refused : (old : Machine) (e : Step) (r : Refusal) (s : Served) → IsRefusal old e r → s.refused ≡ Some r → tellings_of s.told.items ≡ [] → IsServedBy old e old s
served-refused old e r s h is none = record {
  slot = subst (λ o. IsToldAt o s.slot e) (sym is) tt;
  served = λ net stands. (
    net,
    subst₂ (λ o t. IsServed net e o t net) (sym (ap (λ o. ending_by o s.stale) is)) (sym none) (refused r (tried-refused old net e r stands h)),
    stands,
  );
}

-- the ending of what was done
ending-done : (net : Net) (e : Step) (g : Stepped) (s : Served) → s.refused ≡ None → s.stale ≡ g.stale → g.stale ≡ is_stale net e → IsDone (is_stale net e) ≡ ending_of s
ending-done net e g s is stale same = sym (ap (λ o. ending_by o s.stale) is ∙ ap (λ (b : Bool). IsDone b) (stale ∙ same))

pub served-alone : (old new : Machine) (e : Step) (g : Stepped) (s : Served) → IsStepped old e g new → g.place ≡ None → s.refused ≡ None → s.stale ≡ g.stale → s.slot ≡ 0 → tellings_of s.told.items ≡ [] → IsServedBy old e new s
served-alone old new e g s h alone is stale zero none = record {
  slot = subst (λ o. IsToldAt o s.slot e) (sym is) (zero ∙ sym (ap slot_at placeless));
  served = λ net stands.
      let t = h.step net stands in
      let now = (net_step net e).0 in
      let nothing : g.given.outs.items ≡ [] = done-outs net e g.given.outs.items t.1 ∙ placeless-effect net e placeless in
      let waits : waits_after net e (Done g.given.outs.items) ≡ [] = ap (λ os. waits_after net e (Done os)) nothing in
      let heard : AreHeard (slot_at (slot_and_node_of e)) (waits_after net e (Done g.given.outs.items)) now [] now = subst (λ l. AreHeard (slot_at (slot_and_node_of e)) l now [] now) (sym waits) all_heard in
      let told : told_at (slot_and_node_of e) g.given.outs.items ++ [] ≡ [] = ap (λ at. told_at at g.given.outs.items ++ []) placeless in (
        now,
        subst₂ (λ o l. IsServed net e o l now) (ending-done net e g s is stale (h.stale net stands)) (told ∙ sym none) (done g.given.outs.items (tried-done net e g.given.outs.items t.1) heard),
        t.0,
      );
}
  where
    placeless : slot_and_node_of e ≡ None
    placeless = sym h.place ∙ alone

pub served-and-heard : (old now new : Machine) (e : Step) (g : Stepped) (i u : ℕ) (first all : List ToldReply) (rest : List ToldReply) (s : Served) → IsStepped old e g now → g.place ≡ Some (i, u) → now.config ≡ old.config
    → HaveHeard i (all_hearings (names_of now.config.nodes) (named (emissions g.given.outs.items) g.given.marks.items)) now rest new → first ≡ told_of u (Done g.given.outs.items) → all ≡ first ++ rest → s.refused ≡ None → s.stale ≡ g.stale → s.slot ≡ i → tellings_of s.told.items ≡ all → IsServedBy old e new s
served-and-heard old now new e g i u first all rest s h at config heard told both is stale slot is-told = record {
  slot = subst (λ o. IsToldAt o s.slot e) (sym is) (slot ∙ sym (ap slot_at place));
  served = λ net stands.
      let t = h.step net stands in
      let waits : waits_after net e (Done g.given.outs.items) ≡ all_hearings (names_of now.config.nodes) (named (emissions g.given.outs.items) g.given.marks.items) =
      waits-by old net e (Done g.given.outs.items) (named (emissions g.given.outs.items) g.given.marks.items) stands (ap (λ ks. named (emissions g.given.outs.items) ks) (sym (h.marks net stands)))
      ∙ ap (λ (c : Config). all_hearings (names_of c.nodes) (named (emissions g.given.outs.items) g.given.marks.items)) (sym config) in
      let end = heard (net_step net e).0 t.0 in
      let rest-heard : AreHeard (slot_at (slot_and_node_of e)) (waits_after net e (Done g.given.outs.items)) (net_step net e).0 rest end.0 =
      subst₂ (λ p l. AreHeard (slot_at p) l (net_step net e).0 rest end.0) (sym place) (sym waits) end.1 in
      let own : told_at (slot_and_node_of e) g.given.outs.items ++ rest ≡ all = ap (λ p. told_at p g.given.outs.items ++ rest) place ∙ ap (λ l. l ++ rest) (sym told) ∙ sym both in (
        end.0,
        subst₂ (λ o l. IsServed net e o l end.0) (ending-done net e g s is stale (h.stale net stands)) (own ∙ sym is-told) (done g.given.outs.items (tried-done net e g.given.outs.items t.1) rest-heard),
        end.2,
      );
}
  where
    place : slot_and_node_of e ≡ Some (i, u)
    place = sym h.place ∙ at
