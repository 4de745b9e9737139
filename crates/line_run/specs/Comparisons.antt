-- What a comparison of two scripts prints.
use Rattle.std.specs.Prelude.{◌≡◌, ◌++◌, ◌∷◌, ◌&&◌, [], ℕ, Bool, true, false, IsTrue, is_some, List, codes, string_bytes}
use Rattle.std.specs.List.{flat_map}
use Rattle.std.specs.Fmt.{decimal}
use Rattle.scp_types.specs.declared.event.Out.{Out}
use Rattle.line_script.specs.Script.{Bytes}
use Rattle.line_script.specs.Names.{text_of_name}
use Rattle.scp_spec.specs.Hosts.{History, entries, nodes_of}
use Rattle.scp_spec.specs.Isolation.{closure, kept_of, outs_of, SameCast}
use Rattle.scp_spec.specs.Networks.{slices_of}
use Rattle.host_network.specs.Decoding.{reading}
use Rattle.host_journal.specs.Logs.{Log}
use Rattle.host_world.specs.Worlds.{AreJournalsOf, log_at}
use Rattle.line_request.specs.Replies.{behind_space}
use Rattle.host_compare.specs.Meanings.{IsVerdictBetween, IsVerdictOn}
use Rattle.host_compare.specs.declared.verdict.Verdict.{Verdict}
use Rattle.host_compare.specs.declared.verdict.Verdict.TheVariants.{CastDiffers, InputsDiffer, Same}
use Rattle.line_run.specs.declared.answer.Answer.{Answer}

-- the line of a hosted member: its name and what it gave out, with a line feed (10)
abbrev pub line_of_member : ℕ × List Out → Bytes
line_of_member m = text_of_name m.0 ++ (flat_map behind_space m.1 ++ 10 ∷ [])

-- the lines of a verdict
abbrev pub text_of_verdict : Verdict → Bytes
text_of_verdict (CastDiffers u) = codes "cast differs at " ++ (text_of_name u ++ 10 ∷ [])
text_of_verdict (InputsDiffer place) = codes "inputs differ at " ++ (decimal place ++ 10 ∷ [])
text_of_verdict (Same list) = codes "same" ++ 10 ∷ flat_map line_of_member list

-- a verdict finds a difference
abbrev pub is_difference : Verdict → Bool
is_difference (CastDiffers u) = true
is_difference (InputsDiffer place) = true
is_difference (Same list) = false

-- a text has the lines of a verdict, and behind those of a difference an explanation if one is asked for
abbrev pub IsExplained : Bool → Verdict → Bytes → Type 0
IsExplained explain verdict text =
    (more : Bytes) × (text ≡ text_of_verdict verdict ++ more) × ((explain && is_difference verdict) ≡ false → more ≡ [])

-- The headline of two histories of hosts, as this host reads envelopes. Let both host the members of the closure of v
-- in the first alike, with the same slices. Let the steps that concern them be the same in order. Then each hosted
-- member gives out the same in both.
abbrev pub AreIsolatedHistories : History → History → ℕ → ℕ → ℕ → Type 0
AreIsolatedHistories one other g i v =
    let R = closure (nodes_of one.configs g) i v (entries reading one g) in
    SameCast R v (nodes_of one.configs g) (nodes_of other.configs g)
    → kept_of R i (entries reading one g) ≡ kept_of R i (entries reading other g)
    → (u : ℕ) → IsTrue (R u) → IsTrue (is_some (slices_of (nodes_of one.configs g) u))
    → outs_of i u (entries reading one g) ≡ outs_of i u (entries reading other g)

-- two worlds are those of two histories of hosts; the verdict is right between these, and the headline holds of them
pub record IsVerdictOnHistories (one other : List Log) (net slot node : ℕ) (verdict : Verdict) : Type 0 where
  pub first : History
  pub second : History
  pub is_first : AreJournalsOf first one
  pub is_second : AreJournalsOf second other
  pub right : IsVerdictBetween first second net slot node verdict
  pub isolated : AreIsolatedHistories first second net slot node

-- the answer is that of a right verdict on two worlds, in its lines; behind those of a difference it may explain it
pub record IsComparison (one other : List Log) (net slot node : ℕ) (explain : Bool) (a : Answer) : Type 0 where
  pub verdict : Verdict
  pub right : IsVerdictOn (log_at one net) (log_at other net) slot node verdict
  pub histories : IsVerdictOnHistories one other net slot node verdict
  pub differs : a.differs ≡ is_difference verdict
  pub text : IsExplained explain verdict (string_bytes a.text)
