-- An event that needs four passes, three of which change something.
use Rattle.scp_types.specs.declared.event.NodeEvent.{NodeEvent}
use Rattle.std.proofs.Common.{◌≡◌, ℕ, Bool, true, false, Option, Some, None, List, [], ◌∷◌, is_some, refl}
use Rattle.scp_types.specs.Trees.{Slices, node, inner, none}
use Rattle.scp_types.specs.declared.statement.Statement.TheVariants.{Nominate, Prepare}
use Rattle.scp_spec.specs.Nodes.{Node, fresh, after_pass, settle, change, step}
use Rattle.scp_types.specs.declared.event.NodeEvent.TheVariants.{Take}
use Rattle.scp_spec.proofs.Worked.Everything.{everything}
use Rattle.scp_spec.proofs.Worked.Letters.{A, B, C, x, y, at, just, by}

-- A itself, and one of B and C
abbrev itself_and_another : Slices
itself_and_another = record { threshold = 2; members = node A (inner 1 (node B (node C none)) none) }

-- a node after events
abbrev after : Node → List NodeEvent → Node
after n [] = n
after n (e ∷ es) = after (step n e).0 es

-- B and C accept x as nominated, and B votes to commit x from counter 7 to counter 9
abbrev before : Node
before = after (fresh 1 A itself_and_another)
    (Take (by B (just B) (Nominate (x ∷ []) (x ∷ []))) ∷ Take (by C (just C) (Nominate (x ∷ []) (x ∷ []))) ∷ Take
    (by B (just B) (Prepare (at 9 x) (Some (at 9 x)) 0 9 7)) ∷ [])

-- then C has counter 7, with another value
abbrev last : NodeEvent
last = Take (by C (just C) (Prepare (at 7 y) None 0 0 0))

abbrev settles_in : ℕ → Option Node → Bool
settles_in passes None = true
settles_in passes (Some n) = is_some (settle passes (after_pass n) n.votes)

-- a raise, then COMMIT by the node's own vote for what it was raised to, then a greater interval, then nothing
pub three_are_not_enough : settles_in 3 (change before last) ≡ false
unfolding everything
three_are_not_enough = refl

pub four_are : settles_in 4 (change before last) ≡ true
unfolding everything
four_are = refl
