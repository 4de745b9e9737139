use Rattle.std.proofs.Common.{◌≡◌, ◌<◌, Bool, true, ◌==◌, List, [], ◌∷◌, length, refl, sym, ◌∙◌, arith, IsTrue}
use Rattle.std.proofs.lemmas.Bool.Decides.{nat_tests}
use Rattle.scp_types.specs.Shape.{members_of}
use Rattle.scp_types.specs.declared.nested.Member.{Member}
use Rattle.scp_types.specs.declared.nested.Member.TheVariants.{Node, Set}
use Rattle.scp_types.proofs.nested.+are_same.Goals as goal

not_empty : (m : Member) (ms : List Member) → (length (m ∷ ms) == 0) ≡ true → ⊥
not_empty m ms h = absurd (grind (arith, nat_tests))

-- where one has no members, both are the same exactly where the other has none
none_alike : (ms others : List Member) (r : Bool) → length ms < 1 → r ≡ (length others == 0) → (IsTrue r → members_of ms ≡ members_of others) × (members_of ms ≡ members_of others → IsTrue r)
none_alike [] [] r h e = (λ t. refl, λ t. e)
none_alike [] (Node u ∷ rest) r h e = (λ t. absurd (not_empty (Node u) rest (sym e ∙ t)), λ t. cc)
none_alike [] (Set s ∷ rest) r h e = (λ t. absurd (not_empty (Set s) rest (sym e ∙ t)), λ t. cc)
none_alike (m ∷ ms) others r h e = absurd (omega arith)

pub returns-in-empty : goal.returns-in-empty
returns-in-empty t c = none_alike c.args.members.now c.args.others.now c.is_empty.result c.in-empty.len_below c.is_empty.ensures
