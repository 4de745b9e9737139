-- The claims, proved. The laws `agree`, `prefix` and `quiet`, and `Agreements` stand on it.
use Rattle.scp_types.specs.declared.event.NodeEvent.{NodeEvent}
use Rattle.scp_types.specs.declared.event.Out.{Out}
use Rattle.std.proofs.Common.{◌≡◌, true, not, List, ◌++◌, map, flat_map, append_assoc, sym, ◌∙◌, ap, subst}
use Rattle.std.specs.List.{list_all}
use Rattle.std.proofs.lemmas.Bool.{or_right}
use Rattle.std.proofs.lemmas.List.Concat.{flat_map-append}
use Rattle.scp_spec.specs.Sets.{Names, within}
use Rattle.scp_spec.specs.Satisfaction.{names}
use Rattle.scp_spec.specs.Closures.{Rule, keeps, in_least}
use Rattle.scp_spec.specs.Rows.{row}
use Rattle.scp_spec.specs.Nodes.{Node, step}
use Rattle.scp_types.specs.declared.event.NodeEvent.TheVariants.{Take, Reslice}
use Rattle.scp_spec.specs.Hosts.{Entry}
use Rattle.scp_spec.specs.Isolation.{closure, node_rule, announcement_rules}
use Rattle.scp_spec.specs.Claims.{IsClosedFor, IsOfMembers, Agree, CalmNodesAreQuiet, PrefixOfRun, PrefixOfReach}
use Rattle.scp_spec.proofs.Sets.RuleLists.{least-in, least-start, least-keeps}
use Rattle.scp_spec.proofs.Nodes.Views.{row-cut, reached-in}
use Rattle.scp_spec.proofs.Nodes.Closed.{Good, IsFit}
use Rattle.scp_spec.proofs.Nodes.Agreement.{IsKept, cut_node, step-kept}
use Rattle.scp_spec.proofs.Nodes.Quiet.{step-quiet}
use Rattle.scp_spec.proofs.Sets.Lists.{all-left}

pub good : (R : Names) (n : Node) → IsClosedFor R n → Good R n
good R n c = record { closed = record { has = c.has; own = c.own; rows = c.rows }; leaders = c.leaders }

pub quiet_claim : CalmNodesAreQuiet
quiet_claim R n e c calm o =
    let q = step-quiet R n e (good R n c) calm o in
    record {
      outs = q.1;
      inputs = ap (λ (m : Node). m.inputs) q.0;
      votes = ap (λ (m : Node). m.votes) q.0;
      rows = λ u k r. sym (row-cut R (step n (Take e)).0.table u k r)
          ∙ (ap (λ (m : Node). row m.table u k) q.0 ∙ row-cut R n.table u k r);
    }

fits : (R : Names) (e : NodeEvent) → IsOfMembers R e → IsFit R e
fits R (Take e) h = or_right (not (R e.sender)) (within (names e.slices) R) h.1
fits R (Reslice q) h = h
fits R _ h = tt

keeps_to : (R : Names) (e : NodeEvent) → IsOfMembers R e → IsKept R e
keeps_to R (Take e) h = h
keeps_to R _ h = tt

pub agree_claim : Agree
agree_claim R n m e c d k h =
    let same : (cut_node R (step n e).0, (step n e).1) ≡ (cut_node R (step m e).0, (step m e).1) =
    sym (step-kept R n e (good R n c) (fits R e k) (keeps_to R e k))
    ∙ (ap (λ (x : Node). step x e) h ∙ step-kept R m e (good R m d) (fits R e k) (keeps_to R e k)) in
    (ap (λ (r : Node × List Out). r.0) same, ap (λ (r : Node × List Out). r.1) same)

pub prefix_of_reach : PrefixOfReach
prefix_of_reach R n c u h = reached-in R n.name n.slices n.table (good R n c).closed u h

pub prefix_of_run : PrefixOfRun
unfolding closure
prefix_of_run nodes i v front rest u h =
    let whole = in_least (map node_rule nodes ++ flat_map (λ x. announcement_rules i x.event) (front ++ rest)) v in
    least-in (map node_rule nodes ++ flat_map (λ x. announcement_rules i x.event) front) v whole
    (least-start (map node_rule nodes ++ flat_map (λ x. announcement_rules i x.event) (front ++ rest)) v)
    (front_of (map node_rule nodes) front rest whole
    (least-keeps (map node_rule nodes ++ flat_map (λ x. announcement_rules i x.event) (front ++ rest)) v)) u h
  where
    front_of : (rules : List Rule) (xs ys : List Entry) (S : Names)
        → list_all (keeps S) (rules ++ flat_map (λ x. announcement_rules i x.event) (xs ++ ys)) ≡ true
        → list_all (keeps S) (rules ++ flat_map (λ x. announcement_rules i x.event) xs) ≡ true
    front_of rules xs ys S k =
        all-left (keeps S) (rules ++ flat_map (λ x. announcement_rules i x.event) xs)
        (flat_map (λ x. announcement_rules i x.event) ys)
        (subst (λ (zs : List Rule). list_all (keeps S) zs ≡ true)
        (ap (λ zs. rules ++ zs) (flat_map-append (λ (x : Entry). announcement_rules i x.event) xs ys)
        ∙ sym (append_assoc rules (flat_map (λ x. announcement_rules i x.event) xs)
        (flat_map (λ x. announcement_rules i x.event) ys))) k)
