use Rattle.std.proofs.Common.{◌≡◌, ◌∙◌, ap, ℕ, List, Option, cond, Some, length, ◌++◌, ◌∷◌, []}
use Rattle.std.specs.BTreeMap.{is_at}
use Rattle.std.specs.Map.{lookup}
use Rattle.scp_types.specs.contracts.node_id.NodeIdOrd.TheImpl.{ghosts as ord}
use Rattle.host_closure.specs.declared.deliveries.Links.TheInside.{Inside}
use Rattle.host_closure.specs.Turns.{PartyIndex}
use Rattle.host_closure.proofs.NameLookups.{linked_none, linked_some}
use Rattle.host_closure.proofs.deliveries.Links.push.Goals as goal
use Rattle.host_closure.proofs.deliveries.Links.push.Goals.{in-None, in-Some+in_ok-before-in-Some}

pub returns : goal.returns
returns c =
    let latest_was : c.self.inside.latest.entries ≡ c.args.self.now.latest = ap (λ (d : PartyIndex). d.latest) c.self.view_is in
    let earlier_was : c.self.inside.earlier.items ≡ c.args.self.now.earlier = ap (λ (d : PartyIndex). d.earlier) c.self.view_is in
    elim c.match-party.branch [
      | in-None w ↦ linked_none c.args.self.now _ c.args.party c.match-party.before w.in-None.is w.before-is
          (ap (λ (x : Inside). x.latest.entries) w.self-inside-is ∙ latest_was)
          (c.in_ok-push.ensures.items ∙ ap (λ (xs : List (Option ℕ)). xs ++ c.match-party.before ∷ []) (ap (λ (x : Inside). x.earlier.items) w.self-inside-is ∙ earlier_was))
      | in-Some+in_ok-before-in-Some w ↦ linked_some c.args.self.now _ w.in-Some.party c.args.party c.match-party.before w.in-Some.is
          (w.before-is ∙ (w.in_ok-before-in-Some.ensures.old ∙ ap (λ (xs : List (ℕ × ℕ)). lookup (is_at (ord.cmp w.in-Some.party)) xs) latest_was))
          (λ u. ap (λ (x : Inside). lookup (is_at (ord.cmp u)) x.latest.entries) w.self-inside-is ∙ (w.in_ok-before-in-Some.ensures.updates.0 u
          ∙ (λ j. cond (is_at (ord.cmp w.in-Some.party) u) (Some (let n : w.len.result ≡ length c.args.self.now.earlier = w.len.ensures ∙ (c.self.inside.earlier.ok.0 ∙ ap length earlier_was) in n j)) (lookup (is_at (ord.cmp u)) (latest_was j)))))
          (c.in_ok-push.ensures.items ∙ ap (λ (xs : List (Option ℕ)). xs ++ c.match-party.before ∷ []) (ap (λ (x : Inside). x.earlier.items) w.self-inside-is ∙ earlier_was))
    ]
