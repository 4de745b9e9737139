-- What a node counts, and what was drawn on its shares.
use Rattle.std.proofs.Common.{◌≡◌, ℕ, ◌+◌, Bool, true, false, ◌&&◌, ◌==◌, Option, Some, None, if◌then◌else◌, refl, sym, ◌∙◌, ap, ap₂, subst, arith}
use Rattle.std.proofs.lemmas.Bool.Decides.{nat_tests}
use Rattle.scp_spec.specs.Networks.{Net, Step, size_of, source}
use Rattle.scp_spec.specs.Rosters.{Roster, Share, Shares, Source, events_drawn, bytes_drawn, is_on, share_or_budgets, same_share}
use Rattle.scp_spec.specs.Rosters.Share.{Own, Pair}
use Rattle.scp_spec.specs.Rosters.Source.{OfBudgets, OfOpens, OfShare}
use Rattle.scp_spec.specs.Counts.{IsCountedAfter, is_of_share, is_opening}
use Rattle.scp_spec.specs.Networks.Reading.{Read, Fault}
use Rattle.scp_spec.specs.Networks.Step.{Opens, Closes, Proposes, Delivers, Hears, NominationTimerFires, BallotTimerFires, Reslices}
use Rattle.host_network.specs.Charges.{IsCharged, on_own, on_pair}
use Rattle.host_network.specs.Deeds.{IsDrawn}
use Rattle.host_network.specs.FiledSlots.{CountedInstance, FiledInstance, IsTallied, bytes_from, counted_instance, events_from}
use Rattle.host_network.specs.Marks.{slot_and_node_of}
use Rattle.host_network.specs.Standing.{Machine}
use Rattle.host_network.specs.declared.plan.Charge.{Charge}
use Rattle.host_network.specs.declared.plan.Drawn.{Drawn}
use Rattle.host_network.specs.declared.plan.Drawn.TheVariants.{Budgets as ByBudgets, Opens as ByOpens, Own as ByOwn, Pair as ByPair}
use Rattle.host_network.specs.declared.plan.Spot.{Spot}

-- ---- on what an event of a node draws
-- it draws on no share of a node of this name at this slot
pub record Spared (n w : ℕ) (s : Source) : Type 0 where
  pub own : is_of_share n (Own w) s ≡ false
  pub pair : (u : ℕ) → is_of_share n (Pair w u) s ≡ false

-- what is counted at that node is what is drawn on its shares
pub record Agrees (n w : ℕ) (d : Drawn) (s : Source) : Type 0 where
  pub own : on_own d ≡ (if is_of_share n (Own w) s then 1 else 0)
  pub pair : (k u : ℕ) → on_pair d k u ≡ (if is_of_share n (Pair w u) s then k else 0)

abbrev pub IsShareOf : ℕ → Share → Type 0
IsShareOf u (Own w) = w ≡ u
IsShareOf u (Pair w from) = w ≡ u

-- a share on which it draws is one of the node of this name at this slot
abbrev pub IsSourceOf : ℕ → ℕ → Source → Type 0
IsSourceOf i u OfBudgets = Unit {0}
IsSourceOf i u (OfOpens shares) = Unit {0}
IsSourceOf i u (OfShare shares j t) = (j ≡ i) × IsShareOf u t

share_or_budgets-of : (r : Roster) (j i u : ℕ) (t : Share) → j ≡ i → IsShareOf u t → IsSourceOf i u (share_or_budgets r j t)
share_or_budgets-of r j i u t p q = go (is_on r.names t)
  where
    go : (b : Bool) → IsSourceOf i u (if b then OfShare r.shares j t else OfBudgets)
    go true = (p, q)
    go false = tt

abbrev pub pair_of : ℕ → ℕ → ℕ × ℕ
pair_of a b = (a, b)

first-is : (a b c d : ℕ) → Some (pair_of a b) ≡ Some (pair_of c d) → a ≡ c
first-is a b c d h = let q : pair_of a b ≡ pair_of c d = cc in ap (λ (z : ℕ × ℕ). z.0) q

second-is : (a b c d : ℕ) → Some (pair_of a b) ≡ Some (pair_of c d) → b ≡ d
second-is a b c d h = let q : pair_of a b ≡ pair_of c d = cc in ap (λ (z : ℕ × ℕ). z.1) q

pub source-of : (o : Option Roster) (e : Step) (i u : ℕ) → slot_and_node_of e ≡ Some (pair_of i u) → IsSourceOf i u (source o e)
source-of None e i u h = tt
source-of (Some r) (Opens j) i u h = absurd (cc)
source-of (Some r) (Closes j) i u h = absurd (cc)
source-of (Some r) (Proposes j w x) i u h = share_or_budgets-of r j i u (Own w) (first-is j w i u h) (second-is j w i u h)
source-of (Some r) (Delivers w size (Read e)) i u h = share_or_budgets-of r e.slot i u (Pair w e.sender) (first-is e.slot w i u h) (second-is e.slot w i u h)
source-of (Some r) (Delivers w size (Fault n)) i u h = absurd (cc)
source-of (Some r) (Hears j w from kind k) i u h = share_or_budgets-of r j i u (Pair w from) (first-is j w i u h) (second-is j w i u h)
source-of (Some r) (NominationTimerFires j w n) i u h = share_or_budgets-of r j i u (Own w) (first-is j w i u h) (second-is j w i u h)
source-of (Some r) (BallotTimerFires j w n) i u h = share_or_budgets-of r j i u (Own w) (first-is j w i u h) (second-is j w i u h)
source-of (Some r) (Reslices j w q) i u h = share_or_budgets-of r j i u (Own w) (first-is j w i u h) (second-is j w i u h)

turned : (j n i : ℕ) → j ≡ i → (n == i) ≡ false → (j == n) ≡ false
turned j n i p h = grind (nat_tests, arith, p, h)

same-as : (j i : ℕ) → j ≡ i → (j == i) ≡ true
same-as j i p = grind (nat_tests, arith, p)

and-false : (b : Bool) → (b && false) ≡ false
and-false true = refl
and-false false = refl

-- a node at another slot
pub spared-slot : (i u n w : ℕ) (s : Source) → IsSourceOf i u s → (n == i) ≡ false → Spared n w s
spared-slot i u n w OfBudgets h d = record { own = refl; pair = λ v. refl }
spared-slot i u n w (OfOpens shares) h d = record { own = refl; pair = λ v. refl }
spared-slot i u n w (OfShare shares j t) h d = record {
  own = ap (λ b. b && same_share t (Own w)) (turned j n i h.0 d);
  pair = λ v. ap (λ b. b && same_share t (Pair w v)) (turned j n i h.0 d);
}

-- another node
pub spared-name : (i u n w : ℕ) (s : Source) → IsSourceOf i u s → (w == u) ≡ false → Spared n w s
spared-name i u n w OfBudgets h d = record { own = refl; pair = λ v. refl }
spared-name i u n w (OfOpens shares) h d = record { own = refl; pair = λ v. refl }
spared-name i u n w (OfShare shares j (Own a)) h d = record {
  own = ap (λ b. (j == n) && b) (turned a w u h.1 d) ∙ and-false (j == n);
  pair = λ v. and-false (j == n);
}
spared-name i u n w (OfShare shares j (Pair a from)) h d = record {
  own = and-false (j == n);
  pair = λ v. ap (λ b. (j == n) && (b && (from == v))) (turned a w u h.1 d) ∙ and-false (j == n);
}

-- where it draws on no share at all
pub spared-none : (n w : ℕ) (s : Source) → ((m : ℕ) (t : Share) → is_of_share m t s ≡ false) → Spared n w s
spared-none n w s h = record { own = h n (Own w); pair = λ v. h n (Pair w v) }

no-pair : (b : Bool) (k : ℕ) → 0 ≡ (if b && false then k else 0)
no-pair true k = refl
no-pair false k = refl

own-agrees : (shares : Shares) (i u j a : ℕ) (at : Spot) → j ≡ i → a ≡ u → Agrees i u (ByOwn at) (OfShare shares j (Own a))
own-agrees shares i u j a at p q = record {
  own = sym (ap₂ (λ b c. if b && c then 1 else 0) (same-as j i p) (same-as a u q));
  pair = λ n v. no-pair (j == i) n;
}

pair-agrees : (shares : Shares) (i u j a from : ℕ) (at : Spot) → j ≡ i → a ≡ u → Agrees i u (ByPair at from) (OfShare shares j (Pair a from))
pair-agrees shares i u j a from at p q = record {
  own = no-pair (j == i) 1;
  pair = λ n v. sym (ap₂ (λ b c. if b && (c && (from == v)) then n else 0) (same-as j i p) (same-as a u q));
}

-- what is counted at the node of an event is what the event draws on its shares
pub agrees : (m : Machine) (d : Drawn) (s : Source) (i u : ℕ) → IsDrawn m d s → IsSourceOf i u s → Agrees i u d s
agrees m ByBudgets s i u q h = subst (Agrees i u ByBudgets) (sym q) (record { own = refl; pair = λ k v. refl })
agrees m ByOpens s i u q h = subst (Agrees i u ByOpens) (sym q.2) (record { own = refl; pair = λ k v. refl })
agrees m (ByOwn at) s i u q h =
    let is = q.6 in
    let f = subst (IsSourceOf i u) is h in
    subst (Agrees i u (ByOwn at)) (sym is) (own-agrees q.0.shares i u q.1.number q.2.instance.node.name at f.0 f.1)
agrees m (ByPair at w) s i u q h =
    let is = q.6 in
    let f = subst (IsSourceOf i u) is h in
    subst (Agrees i u (ByPair at w)) (sym is) (pair-agrees q.0.shares i u q.1.number q.2.instance.node.name w at f.0 f.1)

-- ---- the counts after an event
pub stays : (net after : Net) (e : Step) (n : ℕ) (x : CountedInstance) → IsCountedAfter net e after → is_opening n e ≡ false → Spared n x.instance.node.name (source net.roster e) → IsTallied n net.draws x → IsTallied n after.draws x
stays net after e n x c o s t = record {
  own = let a = t.own in let b = c.share_events n (Own x.instance.node.name) o in let z = ap {B = ℕ} (λ b. if b then 1 else 0) s.own in omega (arith, a, b, z);
  events = λ u. let a = t.events u in let b = c.share_events n (Pair x.instance.node.name u) o in let z = ap {B = ℕ} (λ b. if b then 1 else 0) (s.pair u) in omega (arith, a, b, z);
  bytes = λ u. let a = t.bytes u in let b = c.share_bytes n (Pair x.instance.node.name u) o in let z = ap {B = ℕ} (λ b. if b then size_of e else 0) (s.pair u) in omega (arith, a, b, z);
}

pub moves : (net after : Net) (e : Step) (n : ℕ) (c : Charge) (x y : FiledInstance) → IsCountedAfter net e after → is_opening n e ≡ false → Agrees n x.held.node.name c.drawn (source net.roster e) → c.size ≡ size_of e
    → y.held.node.name ≡ x.held.node.name → IsCharged c x y → IsTallied n net.draws (counted_instance x) → IsTallied n after.draws (counted_instance y)
moves net after e n c x y k o g size name h t = record {
  own = let a = t.own in let b = k.share_events n (Own x.held.node.name) o in let z = g.own in let w = h.own in
      subst (λ m. y.own ≡ events_drawn n (Own m) after.draws) (sym name) (omega (arith, a, b, z, w));
  events = λ u. let a = t.events u in let b = k.share_events n (Pair x.held.node.name u) o in let z = g.pair 1 u in let w = h.events u in
      subst (λ m. events_from y.heard u ≡ events_drawn n (Pair m u) after.draws) (sym name) (omega (arith, a, b, z, w));
  bytes = λ u. let a = t.bytes u in let b = k.share_bytes n (Pair x.held.node.name u) o in let z = g.pair (size_of e) u in let w = subst (λ (m : ℕ). bytes_from y.heard u ≡ bytes_from x.heard u + on_pair c.drawn m u) size (h.bytes u) in
      subst (λ m. bytes_from y.heard u ≡ bytes_drawn n (Pair m u) after.draws) (sym name) (omega (arith, a, b, z, w));
}
