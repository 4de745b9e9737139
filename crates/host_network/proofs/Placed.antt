-- One node of those at a slot.
use Rattle.std.proofs.Common.{◌≡◌, ℕ, suc, ◌<◌, List, [], ◌∷◌, ◌++◌, length, map, get_or, set, Some, Result, Ok, Err, OnOk, slice_get, drop, ◌+◌, append_assoc, refl, sym, ◌∙◌, ap, subst, arith}
use Rattle.std.specs.List.{All}
use Rattle.std.proofs.lemmas.List.{get_or-map}
use Rattle.std.proofs.lemmas.List.Elements.{All-append, All-cons, All-nil, All-set}
use Rattle.std.proofs.lemmas.Option.{slice_get_read}
use Rattle.scp_types.specs.Trees.{Slices}
use Rattle.scp_types.specs.declared.event.NodeEvent.{NodeEvent}
use Rattle.std.proofs.Math.Seq.{drop-cons}
use Rattle.std.proofs.lemmas.List.{map-append}
use Rattle.scp_spec.specs.Nodes.{Node, fresh}
use Rattle.scp_spec.specs.Networks.{HostedNode, Instance, instances_of_new_slot}
use Rattle.node_store.specs.declared.filed.Filed.{Filed}
use Rattle.node_store.specs.Archives.{Archived, AreFiled, IsFiled, Keeps, sents_of}
use Rattle.scp_spec.specs.Hosts.{Config}
use Rattle.scp_spec.specs.Sets.{IsAscending}
use Rattle.host_network.specs.Changes.{IsChangedAt}
use Rattle.host_network.specs.Charges.{IsActed, IsSlotActed}
use Rattle.host_network.specs.declared.plan.Charge.{Charge}
use Rattle.host_config.specs.Configs.{names_of}
use Rattle.host_network.specs.Standing.{IsStanding}
use Rattle.host_config.proofs.Names.{names-differ}
use Rattle.host_network.specs.FiledSlots.{CountedSlot, FiledInstance, FiledSlot, IsInstanceFiled, IsTallied, HasDrawnNothing, instance_of_filed}
use Rattle.host_network.proofs.Indexes.{changed-set}

mapped : (xs : List FiledInstance) → length (map instance_of_filed xs) ≡ length xs
mapped [] = refl
mapped (x ∷ xs) = ap suc (mapped xs)

here : (old : List FiledInstance) (at : ℕ) (x : FiledInstance) → at < length old → x ≡ get_or old at x → instance_of_filed x ≡ get_or (map instance_of_filed old) at (instance_of_filed x)
here old at x l is = ap instance_of_filed is ∙ sym (get_or-map instance_of_filed old at x (instance_of_filed x) l)

pub placed : {A E X : Type 0} (r : Result A E) (R : X → X → Type 0) (old : List X) (at : ℕ) (x y : X) → at < length old → x ≡ get_or old at x → OnOk r (R x y) → OnOk r (IsChangedAt R at old (set old at y))
placed (Ok a) R old at x y l is h = changed-set R old at x y l is h
placed (Err a) R old at x y l is h = tt

pub acted : {A E : Type 0} (r : Result A E) (c : Charge) (h : ℕ) (e : NodeEvent) (x y : FiledSlot) → y.number ≡ x.number → OnOk r (IsChangedAt (IsActed c e) h x.instances y.instances) → OnOk r (IsSlotActed c h e x y)
acted (Ok a) c h e x y same is = record { number = same; instances = is }
acted (Err a) c h e x y same is = tt

pub stands : (old : List FiledInstance) (at : ℕ) (x : FiledInstance) → at < length old → x ≡ get_or old at x → slice_get old at ≡ Some x
stands old at x l is = slice_get_read old (length old) at x refl l is

pub got : (old : List FiledInstance) (at : ℕ) (x : FiledInstance) → at < length old → x ≡ get_or old at x → slice_get (map instance_of_filed old) at ≡ Some (instance_of_filed x)
got old at x l is = slice_get_read (map instance_of_filed old) (length (map instance_of_filed old)) at (instance_of_filed x) refl (subst (λ n. at < n) (sym (mapped old)) l) (here old at x l is)

-- what is archived stays so
pub archived-still : (old new : Archived) (x : FiledInstance) → Keeps old new → IsInstanceFiled old x → IsInstanceFiled new x
archived-still old new x kept h = record {
  table = h.table;
  rows = λ k d l. kept (get_or x.held.rows k d) (h.rows k d l);
  emitted = λ k d l. kept (get_or x.emitted k d) (h.emitted k d l);
}

pub all-archived : (old new : Archived) (xs : List FiledInstance) (at : ℕ) (y : FiledInstance) → Keeps old new → IsInstanceFiled new y → All (IsInstanceFiled old) xs → All (IsInstanceFiled new) (set xs at y)
all-archived old new xs at y kept one all = All-set (IsInstanceFiled new) xs at y one (λ k d l. archived-still old new (get_or xs k d) kept (all k d l))

-- a node that has taken and emitted nothing
pub fresh-archived : (archive : Archived) (x : FiledInstance) (i u : ℕ) (q : Slices) → x.held.node ≡ fresh i u q → x.held.rows ≡ [] → x.emitted ≡ [] → IsInstanceFiled archive x
unfolding fresh
fresh-archived archive x i u q node rows emitted = record {
  table = ap (λ (n : Node). n.table) node ∙ sym (ap sents_of rows);
  rows = subst (λ (fs : List Filed). AreFiled archive fs) (sym rows) (All-nil (IsFiled archive));
  emitted = subst (λ (fs : List Filed). AreFiled archive fs) (sym emitted) (All-nil (IsFiled archive));
}

pub one-more : (archive : Archived) (xs ys : List FiledInstance) (x : FiledInstance) → ys ≡ xs ++ x ∷ [] → IsInstanceFiled archive x → All (IsInstanceFiled archive) xs → All (IsInstanceFiled archive) ys
one-more archive xs ys x is one all = subst (λ (zs : List FiledInstance). All (IsInstanceFiled archive) zs) (sym is) (All-append (IsInstanceFiled archive) xs (x ∷ []) all (All-cons (IsInstanceFiled archive) x [] one (All-nil (IsInstanceFiled archive))))

pub one-more-uncounted : (xs ys : List FiledInstance) (x : FiledInstance) → ys ≡ xs ++ x ∷ [] → x.own ≡ 0 → x.heard ≡ [] → All HasDrawnNothing xs → All HasDrawnNothing ys
one-more-uncounted xs ys x is own heard all =
    let one : HasDrawnNothing x = record { own = own; heard = heard } in
    subst (λ (zs : List FiledInstance). All HasDrawnNothing zs) (sym is) (All-append HasDrawnNothing xs (x ∷ []) all (All-cons HasDrawnNothing x [] one (All-nil HasDrawnNothing)))

-- one hosted node more
pub instances_of_new_slot-more : (old new : List FiledInstance) (start : List Instance) (nodes : List HostedNode) (i n : ℕ) (h : HostedNode) (x : FiledInstance) → i < length nodes → h ≡ get_or nodes i h → new ≡ old ++ x ∷ []
    → instance_of_filed x ≡ record { node = fresh n h.name h.slices; emitted = [] } → map instance_of_filed old ++ instances_of_new_slot (drop i nodes) n ≡ start → map instance_of_filed new ++ instances_of_new_slot (drop (i + 1) nodes) n ≡ start
unfolding instances_of_new_slot
instances_of_new_slot-more old new start nodes i n h x l is more made before =
    let z : suc i ≡ i + 1 = omega arith in
    let rest = instances_of_new_slot (drop (i + 1) nodes) n in
    let next : instances_of_new_slot (drop i nodes) n ≡ instance_of_filed x ∷ rest = ap (λ (hs : List HostedNode). instances_of_new_slot hs n) (drop-cons nodes i h l ∙ (λ j. sym is j ∷ drop (z j) nodes)) ∙ ap (λ (q : Instance). q ∷ rest) (sym made) in
    ap (λ (ls : List FiledInstance). map instance_of_filed ls ++ rest) more ∙ ap (λ (ps : List Instance). ps ++ rest) (map-append instance_of_filed old (x ∷ [])) ∙ append_assoc (map instance_of_filed old) (instance_of_filed x ∷ []) rest
    ∙ sym (ap (λ (ps : List Instance). map instance_of_filed old ++ ps) next) ∙ before

-- a network where nothing has happened
pub fresh-standing : (config : Config) (archive : Archived) (slots : List FiledSlot) → slots ≡ [] → IsAscending (names_of config.nodes) → IsStanding (record { config = config; archive = archive; slots = slots; events = 0; bytes = 0; opens = 0 })
fresh-standing config archive slots none up = subst (λ (ss : List FiledSlot). IsStanding (record { config = config; archive = archive; slots = ss; events = 0; bytes = 0; opens = 0 })) (sym none) (record {
  archived = All-nil (λ (s : FiledSlot). All (IsInstanceFiled archive) s.instances);
  tidy = record { single = names-differ (names_of config.nodes) up; names = tt; apart = refl; own = tt; bytes = omega arith };
  stood = ([], All-nil (λ (s : CountedSlot). All (IsTallied s.number []) s.instances));
})
