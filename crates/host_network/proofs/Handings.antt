-- Plans where an envelope reaches a node, delivered or heard, and refusals.
use Rattle.std.proofs.Common.{◌≡◌, ℕ, zero, suc, Bool, true, false, not, ◌||◌, ◌==◌, List, [], ◌∷◌, map, Option, Some, None, option_map, Result, Ok, Err, is_none, is_some, refl, sym, ◌∙◌, ap, subst}
use Rattle.std.specs.Borrow.{Bor}
use Rattle.scp_types.specs.Statements.{Sent}
use Rattle.scp_types.specs.declared.kind.Kind.{Kind}
use Rattle.scp_types.specs.declared.event.Refusal.{Refusal}
use Rattle.scp_types.specs.declared.event.Refusal.TheVariants.{BadEnvelope, HostedSender, NoSuchNode, NotEmitted, SlotNotOpen}
use Rattle.scp_spec.specs.Networks.{Net, Instance, Reading, act_known, effect, emission, first_that, room_test, bytes_test, is_hosted, hosted_test, open_test, node_where_open, instances_at, source, tests}
use Rattle.scp_spec.specs.Networks.Reading.{Read, Fault}
use Rattle.scp_spec.specs.Networks.Step.{Delivers, Hears}
use Rattle.scp_spec.specs.Rosters.{Roster, Source}
use Rattle.host_config.specs.Configs.{index_of_name}
use Rattle.node_store.specs.Archives.{IsFiled, sent_of}
use Rattle.node_store.specs.declared.filed.Filed.{Filed}
use Rattle.node_core.specs.declared.filed.FiledEvent.TheVariants as events
use Rattle.host_network.specs.Deeds.{HasRoomForDrawnBytes, HasNoRoomForBytes, IsDrawn, IsPlan, IsRoom, IsCountedInstance, IsSlotThere, index_of_slot, pair_source}
use Rattle.host_network.specs.FiledSlots.{CountedInstance, slot_of}
use Rattle.host_network.specs.Standing.{IsFirstRefusal, IsStanding, FiledMachine, StandsFor, machine_of}
use Rattle.host_network.specs.EmissionsByKind.{nth_of}
use Rattle.host_network.specs.declared.plan.Deed.TheVariants.{Act, Hand}
use Rattle.host_network.specs.declared.plan.Drawn.{Drawn}
use Rattle.host_network.proofs.Allowed.{node_then, node_place-in, hosted, hosted-not, no_node, not_open, open_then, passes, refuses, stops}
use Rattle.host_network.proofs.Openings.{none-so}
use Rattle.host_network.proofs.Planned.{act-plan, hand-plan, node_where_open-instance, roster-in}

-- ---- bytes
pub bytes-nowhere : (m : FiledMachine) (u size : ℕ) (d : Reading) → index_of_name m.config.nodes u ≡ None → IsFirstRefusal (machine_of m) (Delivers u size d) NoSuchNode
bytes-nowhere m u size (Read e) q =
    λ net s.
    let src = source net.roster (Delivers u size (Read e)) in
    no_node m net u ((is_hosted net e.sender, HostedSender) ∷ open_test net e.slot ∷ room_test net src ∷ bytes_test net src size ∷ []) s q
bytes-nowhere m u size (Fault n) q = λ net s. no_node m net u ((true, BadEnvelope n) ∷ []) s q

pub bytes-bad : (m : FiledMachine) (u h size n : ℕ) → index_of_name m.config.nodes u ≡ Some h → IsFirstRefusal (machine_of m) (Delivers u size (Fault n)) (BadEnvelope n)
bytes-bad m u h size n q = λ net s. node_then m net u h ((true, BadEnvelope n) ∷ []) s q

-- ---- an envelope
delivers-source : (o : Option Roster) (u size : ℕ) (e : Sent) → source o (Delivers u size (Read e)) ≡ pair_source o e.slot u e.sender
delivers-source None u size e = refl
delivers-source (Some r) u size e = refl

abbrev after_sender : Net → ℕ → Sent → Source → List (Bool × Refusal)
after_sender net size e src = open_test net e.slot ∷ room_test net src ∷ bytes_test net src size ∷ []

-- what is tested once the node is there
envelope-there : (m : FiledMachine) (net : Net) (u h size : ℕ) (e : Sent) → index_of_name m.config.nodes u ≡ Some h → StandsFor (machine_of m) net
    → first_that (tests net (Delivers u size (Read e))) ≡ first_that ((is_hosted net e.sender, HostedSender) ∷ after_sender net size e (pair_source net.roster e.slot u e.sender))
envelope-there m net u h size e q s =
    ap (λ src. first_that (hosted_test net u ∷ (is_hosted net e.sender, HostedSender) ∷ after_sender net size e src)) (delivers-source net.roster u size e)
    ∙ node_then m net u h ((is_hosted net e.sender, HostedSender) ∷ after_sender net size e (pair_source net.roster e.slot u e.sender)) s q

pub sender-hosted : (m : FiledMachine) (u h j size : ℕ) (e : Sent) → index_of_name m.config.nodes u ≡ Some h → index_of_name m.config.nodes e.sender ≡ Some j → IsFirstRefusal (machine_of m) (Delivers u size (Read e)) HostedSender
sender-hosted m u h j size e q r =
    λ net s. envelope-there m net u h size e q s ∙ refuses (is_hosted net e.sender) HostedSender (after_sender net size e (pair_source net.roster e.slot u e.sender)) (hosted net e.sender j (node_place-in m net e.sender s ∙ r))

pub sender-hosted-so : (m : FiledMachine) (u h size : ℕ) (e : Sent) → index_of_name m.config.nodes u ≡ Some h → is_some (index_of_name m.config.nodes e.sender) ≡ true → IsFirstRefusal (machine_of m) (Delivers u size (Read e)) HostedSender
sender-hosted-so m u h size e q t = go (index_of_name m.config.nodes e.sender) refl t
  where
    go : (o : Option ℕ) → index_of_name m.config.nodes e.sender ≡ o → is_some o ≡ true → IsFirstRefusal (machine_of m) (Delivers u size (Read e)) HostedSender
    go None r t = absurd (cc)
    go (Some j) r t = sender-hosted m u h j size e q r

-- and its sender is not hosted
from-stranger : (m : FiledMachine) (net : Net) (u h size : ℕ) (e : Sent) → index_of_name m.config.nodes u ≡ Some h → index_of_name m.config.nodes e.sender ≡ None → StandsFor (machine_of m) net
    → first_that (tests net (Delivers u size (Read e))) ≡ first_that (after_sender net size e (pair_source net.roster e.slot u e.sender))
from-stranger m net u h size e q r s =
    envelope-there m net u h size e q s ∙ passes (is_hosted net e.sender, HostedSender) (after_sender net size e (pair_source net.roster e.slot u e.sender)) (hosted-not net e.sender (node_place-in m net e.sender s ∙ r))

pub envelope-closed : (m : FiledMachine) (u h size : ℕ) (e : Sent) → index_of_name m.config.nodes u ≡ Some h → index_of_name m.config.nodes e.sender ≡ None → index_of_slot (map slot_of (machine_of m).slots) e.slot ≡ None → IsFirstRefusal (machine_of m) (Delivers u size (Read e)) SlotNotOpen
envelope-closed m u h size e q r c =
    λ net s.
    let src = pair_source net.roster e.slot u e.sender in
    from-stranger m net u h size e q r s ∙ not_open m net e.slot (room_test net src ∷ bytes_test net src size ∷ []) s c

-- and the slot is open
pub record IsReaching (m : FiledMachine) (u h k : ℕ) (e : Sent) : Type 0 where
  pub node : index_of_name m.config.nodes u ≡ Some h
  pub stranger : index_of_name m.config.nodes e.sender ≡ None
  pub slot : IsSlotThere m e.slot k

pub reaching : (m : FiledMachine) (u h k i : ℕ) (e : Sent) → index_of_name m.config.nodes u ≡ Some h → is_some (index_of_name m.config.nodes e.sender) ≡ false → i ≡ e.slot → IsSlotThere m i k → IsReaching m u h k e
reaching m u h k i e q f same c = record { node = q; stranger = none-so (index_of_name m.config.nodes e.sender) f; slot = subst (λ j. IsSlotThere m j k) same c }

-- room for what comes from its sender
pub sender-room : {m : FiledMachine} {u h k w : ℕ} {e : Sent} → IsReaching m u h k e → (r : Result Drawn Refusal) → w ≡ e.sender → ((i : ℕ) → IsSlotThere m i k → IsRoom m (λ o. pair_source o i u w) r) → IsRoom m (λ o. pair_source o e.slot u e.sender) r
sender-room {m} {u} {h} {k} {w} {e} x r same room = subst (λ v. IsRoom m (λ o. pair_source o e.slot u v) r) same (room e.slot x.slot)

at-slot : (m : FiledMachine) (net : Net) (u h k size : ℕ) (e : Sent) → IsReaching m u h k e → StandsFor (machine_of m) net
    → first_that (tests net (Delivers u size (Read e))) ≡ first_that (room_test net (pair_source net.roster e.slot u e.sender) ∷ bytes_test net (pair_source net.roster e.slot u e.sender) size ∷ [])
at-slot m net u h k size e r s =
    let src = pair_source net.roster e.slot u e.sender in
    from-stranger m net u h size e r.node r.stranger s ∙ open_then m net e.slot k (room_test net src ∷ bytes_test net src size ∷ []) s r.slot

pub envelope-full : {m : FiledMachine} {u h k : ℕ} {e : Sent} (size : ℕ) (x : Refusal) → IsReaching m u h k e → IsRoom m (λ o. pair_source o e.slot u e.sender) (Err x) → IsFirstRefusal (machine_of m) (Delivers u size (Read e)) x
envelope-full {m} {u} {h} {k} {e} size x r full =
    λ net s.
    let src = pair_source net.roster e.slot u e.sender in
    at-slot m net u h k size e r s ∙ stops (room_test net src) x (bytes_test net src size ∷ []) (full net s)

-- and there is room for an event
drawn-in : (m : FiledMachine) (net : Net) (i u w : ℕ) (d : Drawn) → StandsFor (machine_of m) net → IsDrawn (machine_of m) d (pair_source m.config.roster i u w) → IsDrawn (machine_of m) d (pair_source net.roster i u w)
drawn-in m net i u w d s h = subst (λ o. IsDrawn (machine_of m) d (pair_source o i u w)) (sym (roster-in m net s)) h

pub envelope-large : {m : FiledMachine} {u h k : ℕ} {e : Sent} (size : ℕ) (d : Drawn) (x : Refusal) → IsReaching m u h k e → IsRoom m (λ o. pair_source o e.slot u e.sender) (Ok d) → HasNoRoomForBytes (machine_of m) d size x
    → IsFirstRefusal (machine_of m) (Delivers u size (Read e)) x
envelope-large {m} {u} {h} {k} {e} size d x r room full =
    λ net s.
    let src = pair_source net.roster e.slot u e.sender in
    at-slot m net u h k size e r s ∙ passes (room_test net src) (bytes_test net src size ∷ []) (room.1 net s)
    ∙ stops (bytes_test net src size) x [] (full src net (drawn-in m net e.slot u e.sender d s room.0) s)

pub envelope-plan : {m : FiledMachine} {u h k : ℕ} {e : Sent} (size : ℕ) (d : Drawn) → IsStanding m → IsReaching m u h k e → IsRoom m (λ o. pair_source o e.slot u e.sender) (Ok d) → HasRoomForDrawnBytes (machine_of m) d size
    → IsPlan m (Delivers u size (Read e)) (record { deed = Hand (record { slot_at = k; node_at = h }) e; charge = record { drawn = d; size = size } })
unfolding effect
envelope-plan {m} {u} {h} {k} {e} size d st r room fits =
    hand-plan m (Delivers u size (Read e)) e.slot u size (record { slot_at = k; node_at = h }) e d st (record { slot = r.slot; node = r.node }) (subst (IsDrawn (machine_of m) d) (sym (delivers-source m.config.roster u size e)) room.0) refl refl refl (λ net. refl)
    (λ net s.
    let src = pair_source net.roster e.slot u e.sender in
    at-slot m net u h k size e r s ∙ passes (room_test net src) (bytes_test net src size ∷ []) (room.1 net s)
    ∙ passes (bytes_test net src size) [] (fits src net (drawn-in m net e.slot u e.sender d s room.0) s))

-- ---- what another node has emitted
hears-source : (o : Option Roster) (i u w : ℕ) (kind : Kind) (n : ℕ) → source o (Hears i u w kind n) ≡ pair_source o i u w
hears-source None i u w kind n = refl
hears-source (Some r) i u w kind n = refl

-- both are hosted, and they are two
abbrev apart : Net → ℕ → ℕ → Bool
apart net u w = not (is_hosted net u) || not (is_hosted net w) || (u == w)

abbrev after_nodes : Net → ℕ → ℕ → Kind → ℕ → Source → List (Bool × Refusal)
after_nodes net i w kind n src = open_test net i ∷ (is_none (emission (node_where_open (instances_at net.slots i) w) kind n), NotEmitted) ∷ room_test net src ∷ []

hears-are : (net : Net) (i u w : ℕ) (kind : Kind) (n : ℕ) → first_that (tests net (Hears i u w kind n)) ≡ first_that ((apart net u w, NoSuchNode) ∷ after_nodes net i w kind n (pair_source net.roster i u w))
hears-are net i u w kind n = ap (λ src. first_that ((apart net u w, NoSuchNode) ∷ after_nodes net i w kind n src)) (hears-source net.roster i u w kind n)

first-holds : (a b c : Bool) → a ≡ false → (not a || not b || c) ≡ true
first-holds true b c h = absurd (cc)
first-holds false b c h = refl

second-holds : (a b c : Bool) → b ≡ false → (not a || not b || c) ≡ true
second-holds true true c h = absurd (cc)
second-holds true false c h = refl
second-holds false b c h = refl

none-holds : (a b c : Bool) → a ≡ true → b ≡ true → c ≡ false → (not a || not b || c) ≡ false
none-holds true true false h k l = refl
none-holds true true true h k l = absurd (cc)
none-holds true false c h k l = absurd (cc)
none-holds false b c h k l = absurd (cc)

pub hears-nowhere : (m : FiledMachine) (i u w : ℕ) (kind : Kind) (n : ℕ) → index_of_name m.config.nodes u ≡ None → IsFirstRefusal (machine_of m) (Hears i u w kind n) NoSuchNode
hears-nowhere m i u w kind n q =
    λ net s. hears-are net i u w kind n ∙ refuses (apart net u w) NoSuchNode (after_nodes net i w kind n (pair_source net.roster i u w)) (first-holds (is_hosted net u) (is_hosted net w) (u == w) (hosted-not net u (node_place-in m net u s ∙ q)))

pub hears-nobody : (m : FiledMachine) (i u w : ℕ) (kind : Kind) (n : ℕ) → index_of_name m.config.nodes w ≡ None → IsFirstRefusal (machine_of m) (Hears i u w kind n) NoSuchNode
hears-nobody m i u w kind n q =
    λ net s. hears-are net i u w kind n ∙ refuses (apart net u w) NoSuchNode (after_nodes net i w kind n (pair_source net.roster i u w)) (second-holds (is_hosted net u) (is_hosted net w) (u == w) (hosted-not net w (node_place-in m net w s ∙ q)))

-- two hosted nodes
pub record AreTwo (m : FiledMachine) (u h w j : ℕ) : Type 0 where
  pub node : index_of_name m.config.nodes u ≡ Some h
  pub from : index_of_name m.config.nodes w ≡ Some j
  pub differ : (u == w) ≡ false

two-there : (m : FiledMachine) (net : Net) (i u h w j : ℕ) (kind : Kind) (n : ℕ) → AreTwo m u h w j → StandsFor (machine_of m) net → first_that (tests net (Hears i u w kind n)) ≡ first_that (after_nodes net i w kind n (pair_source net.roster i u w))
two-there m net i u h w j kind n two s =
    hears-are net i u w kind n
    ∙ passes (apart net u w, NoSuchNode) (after_nodes net i w kind n (pair_source net.roster i u w)) (none-holds (is_hosted net u) (is_hosted net w) (u == w) (hosted net u h (node_place-in m net u s ∙ two.node)) (hosted net w j (node_place-in m net w s ∙ two.from)) two.differ)

pub hears-closed : (m : FiledMachine) (i u h w j : ℕ) (kind : Kind) (n : ℕ) → AreTwo m u h w j → index_of_slot (map slot_of (machine_of m).slots) i ≡ None → IsFirstRefusal (machine_of m) (Hears i u w kind n) SlotNotOpen
hears-closed m i u h w j kind n two c =
    λ net s. two-there m net i u h w j kind n two s ∙ not_open m net i ((is_none (emission (node_where_open (instances_at net.slots i) w) kind n), NotEmitted) ∷ room_test net (pair_source net.roster i u w) ∷ []) s c

-- what it has emitted
emitted-nth : (p : Instance) (kind : Kind) (n : ℕ) → emission (Some p) kind n ≡ nth_of kind n p.emitted
emitted-nth p kind zero = refl
emitted-nth p kind (suc n) = refl

emission-is : (m : FiledMachine) (net : Net) (i w k j : ℕ) (kind : Kind) (n : ℕ) (y : CountedInstance) (o : Option (Bor Filed)) → IsStanding m → StandsFor (machine_of m) net → IsSlotThere m i k → index_of_name m.config.nodes w ≡ Some j → IsCountedInstance (machine_of m) k j y
    → option_map (λ f. sent_of f.now) o ≡ nth_of kind n y.instance.emitted → emission (node_where_open (instances_at net.slots i) w) kind n ≡ option_map (λ f. sent_of f.now) o
emission-is m net i w k j kind n y o st s q r is e = ap (λ x. emission x kind n) (node_where_open-instance m net i w k j y st s q r is) ∙ emitted-nth y.instance kind n ∙ sym e

-- and the slot is open
pub record IsHearing (m : FiledMachine) (i u h w j k : ℕ) (kind : Kind) (n : ℕ) (y : CountedInstance) (o : Option (Bor Filed)) : Type 0 where
  pub standing : IsStanding m
  pub two : AreTwo m u h w j
  pub slot : IsSlotThere m i k
  pub counted : IsCountedInstance (machine_of m) k j y
  pub sent : option_map (λ f. sent_of f.now) o ≡ nth_of kind n y.instance.emitted

pub hearing : {s : FiledMachine} (m : FiledMachine) (i u h w j k : ℕ) (kind : Kind) (n : ℕ) (y : CountedInstance) (o : Option (Bor Filed)) → s ≡ m → IsStanding s → index_of_name m.config.nodes u ≡ Some h → index_of_name m.config.nodes w ≡ Some j → (u == w) ≡ false → IsSlotThere m i k → IsCountedInstance (machine_of m) k j y
    → option_map (λ f. sent_of f.now) o ≡ nth_of kind n y.instance.emitted → IsHearing m i u h w j k kind n y o
hearing m i u h w j k kind n y o seen st q r differ c is e = record { standing = subst IsStanding seen st; two = record { node = q; from = r; differ = differ }; slot = c; counted = is; sent = e }

heard-at : (m : FiledMachine) (net : Net) (i u h w j k : ℕ) (kind : Kind) (n : ℕ) (y : CountedInstance) (o : Option (Bor Filed)) → IsHearing m i u h w j k kind n y o → StandsFor (machine_of m) net
    → first_that (tests net (Hears i u w kind n)) ≡ first_that ((is_none (option_map (λ f. sent_of f.now) o), NotEmitted) ∷ room_test net (pair_source net.roster i u w) ∷ [])
heard-at m net i u h w j k kind n y o x s =
    let ts : List (Bool × Refusal) = room_test net (pair_source net.roster i u w) ∷ [] in
    two-there m net i u h w j kind n x.two s ∙ open_then m net i k ((is_none (emission (node_where_open (instances_at net.slots i) w) kind n), NotEmitted) ∷ ts) s x.slot
    ∙ ap (λ z. first_that ((is_none z, NotEmitted) ∷ ts)) (emission-is m net i w k j kind n y o x.standing s x.slot x.two.from x.counted x.sent)

pub hears-nothing : {m : FiledMachine} {i u h w j k : ℕ} {kind : Kind} {n : ℕ} {y : CountedInstance} {o : Option (Bor Filed)} → IsHearing m i u h w j k kind n y o → o ≡ None
    → IsFirstRefusal (machine_of m) (Hears i u w kind n) NotEmitted
hears-nothing {m} {i} {u} {h} {w} {j} {k} {kind} {n} {y} {o} x none =
    λ net s. heard-at m net i u h w j k kind n y o x s ∙ ap (λ z. first_that ((is_none (option_map (λ f. sent_of f.now) z), NotEmitted) ∷ room_test net (pair_source net.roster i u w) ∷ [])) none

-- and there is such an emission
heard-it : (m : FiledMachine) (net : Net) (i u h w j k : ℕ) (kind : Kind) (n : ℕ) (y : CountedInstance) (o : Option (Bor Filed)) (f : Bor Filed) → IsHearing m i u h w j k kind n y o → o ≡ Some f → StandsFor (machine_of m) net
    → first_that (tests net (Hears i u w kind n)) ≡ first_that (room_test net (pair_source net.roster i u w) ∷ [])
heard-it m net i u h w j k kind n y o f x some s =
    heard-at m net i u h w j k kind n y o x s ∙ ap (λ z. first_that ((is_none (option_map (λ f. sent_of f.now) z), NotEmitted) ∷ room_test net (pair_source net.roster i u w) ∷ [])) some

pub hears-full : {m : FiledMachine} {i u h w j k : ℕ} {kind : Kind} {n : ℕ} {y : CountedInstance} {o : Option (Bor Filed)} (f : Bor Filed) (e : Refusal) → IsHearing m i u h w j k kind n y o → o ≡ Some f
    → IsRoom m (λ o. pair_source o i u w) (Err e) → IsFirstRefusal (machine_of m) (Hears i u w kind n) e
hears-full {m} {i} {u} {h} {w} {j} {k} {kind} {n} {y} {o} f e x some full =
    λ net s. heard-it m net i u h w j k kind n y o f x some s ∙ stops (room_test net (pair_source net.roster i u w)) e [] (full net s)

pub hears-plan : {m : FiledMachine} {i u h w j k : ℕ} {kind : Kind} {n : ℕ} {y : CountedInstance} {o : Option (Bor Filed)} (f : Bor Filed) (d : Drawn) → IsHearing m i u h w j k kind n y o → o ≡ Some f
    → IsFiled m.archive f.now → IsRoom m (λ o. pair_source o i u w) (Ok d) → IsPlan m (Hears i u w kind n) (record { deed = Act (record { slot_at = k; node_at = h }) (events.Take f.now); charge = record { drawn = d; size = 0 } })
unfolding effect
hears-plan {m} {i} {u} {h} {w} {j} {k} {kind} {n} {y} {o} f d x some filed room =
    act-plan m (Hears i u w kind n) i u (record { slot_at = k; node_at = h }) (events.Take f.now) d x.standing (record { slot = x.slot; node = x.two.node }) filed (subst (IsDrawn (machine_of m) d) (sym (hears-source m.config.roster i u w kind n)) room.0) refl refl refl
    (λ net s. ap (act_known net i u) (emission-is m net i w k j kind n y o x.standing s x.slot x.two.from x.counted x.sent ∙ ap (option_map (λ f. sent_of f.now)) some))
    (λ net s. heard-it m net i u h w j k kind n y o f x some s ∙ passes (room_test net (pair_source net.roster i u w)) [] (room.1 net s))
