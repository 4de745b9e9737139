-- The bytes of a delivery are the one spelling of its envelope.
use Rattle.std.proofs.Common.{◌≡◌, ◌≤◌, ℕ, false, List, length, Option, Some, IfSome, option_map, refl, sym, ap, ◌∙◌, subst, arith}
use Rattle.std.proofs.lemmas.Bool.Decides.{nat_tests}
use Rattle.scp_types.specs.Statements.{Sent}
use Rattle.scp_codec.specs.Spelling.{Spells, most_bytes}
use Rattle.scp_codec.proofs.Lengths.{spelling_is_short}
use Rattle.scp_codec.specs.Steps.{IsBytes}
use Rattle.node_store.specs.declared.filed.Filed.{Filed}
use Rattle.node_store.specs.Archives.{Archived, IsFiled, sent_of}
use Rattle.scp_spec.specs.Networks.{HostedNode, Reading}
use Rattle.scp_spec.specs.Networks.Reading.{Read, Fault}
use Rattle.scp_spec.specs.Networks.Step.{Delivers}
use Rattle.host_network.specs.Answers.{delivered_of}
use Rattle.host_network.specs.Decoding.{reading}
use Rattle.host_network.proofs.Readings.{readings_are_exact}
use Rattle.host_journal.specs.declared.node_place.NodePlace.{NodePlace}
use Rattle.host_journal.specs.Boxing.{is_wide}
use Rattle.host_journal.specs.Hosting.{IsNodePlace, node_name}
use Rattle.host_journal.specs.Keeping.{spelled_size}

pub counted : (bytes : List ℕ) (e : Sent) → Spells bytes e → length bytes ≡ spelled_size e
unfolding spelled_size
counted bytes e h = ap length h.text

spells : (bytes : List ℕ) (u : ℕ) (e : Sent) → IsBytes bytes → Some e ≡ delivered_of (Delivers u (length bytes) (reading bytes)) → Spells bytes e
spells bytes u e fits h = go (reading bytes) refl h
  where
    go : (r : Reading) → reading bytes ≡ r → Some e ≡ delivered_of (Delivers u (length bytes) r) → Spells bytes e
    go (Read d) q k = let z : d ≡ e = cc in ((readings_are_exact bytes fits).envelope e).0 (q ∙ ap (λ (x : Sent). Read x) z)
    go (Fault n) q k = absurd (cc)

-- the bytes of an envelope are few
pub few_bytes : (delivered : Option Filed) (f : Filed) (bytes : List ℕ) (u : NodePlace) (size : ℕ) → delivered ≡ Some f → option_map sent_of delivered ≡ delivered_of (Delivers (node_name u) (length bytes) (reading bytes)) → IsBytes bytes → size ≡ length bytes
    → is_wide size ≡ false
few_bytes delivered f bytes u size is from fits count =
    let said = spells bytes (node_name u) (sent_of f) fits (sym (ap (option_map sent_of) is) ∙ from) in
    below (length bytes) size count (subst (λ n. n ≤ most_bytes) (ap length (sym said.text)) (spelling_is_short (sent_of f) said.envelope))
  where
    below : (n size : ℕ) → size ≡ n → n ≤ 65536 → is_wide size ≡ false
    below n size is h = grind (arith, nat_tests, is, h)

-- a delivery as it is kept
pub filed : (delivered : Option Filed) (f : Filed) (bytes : List ℕ) (u : NodePlace) (size : ℕ) → delivered ≡ Some f → option_map sent_of delivered ≡ delivered_of (Delivers (node_name u) (length bytes) (reading bytes)) → IsBytes bytes → size ≡ length bytes
    → (nodes : List HostedNode) (archive : Archived) → IsNodePlace nodes u → IfSome delivered (IsFiled archive) → IsNodePlace nodes u × IsFiled archive f × (size ≡ spelled_size (sent_of f))
filed delivered f bytes u size is from fits count nodes archive there h =
    (there, subst (λ (o : Option Filed). IfSome o (IsFiled archive)) is h, count ∙ counted bytes (sent_of f) (spells bytes (node_name u) (sent_of f) fits (sym (ap (option_map sent_of) is) ∙ from)))
