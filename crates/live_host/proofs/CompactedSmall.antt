-- What lines declare has budgets that fit words.
use Rattle.std.specs.Prelude.{◌≡◌, ◌<◌, ◌^◌, ℕ, List, codes, Option, Some, None, option_map}
use Rattle.std.proofs.Common.{refl, sym, ap, subst, arith, inl, inr}
use Rattle.scp_spec.specs.Networks.{Budgets}
use Rattle.scp_spec.specs.Rosters.{Shares}
use Rattle.line_script.specs.Script.{Bytes}
use Rattle.line_script.specs.Words.{word_number}
use Rattle.line_request.specs.Requests.{AreAllowed, IsReserved, budgets_in, number_behind, shares_in}
use Rattle.line_request.specs.declared.request.Declaration.{Declaration}
use Rattle.line_request.specs.declared.request.Declaration.TheVariants as declaration
use Rattle.line_request.specs.declared.request.Request.TheVariants as request
use Rattle.live_host.specs.Compacted.{DeclarationsAreSmall, IsSmallDeclaration}
use Rattle.live_host.proofs.LoweringAsked.{HasParts, IsScriptOf, asks-script, has-parts, its-request}
use Rattle.live_host.proofs.LoweringNets.{is-behind, some-then}
use Rattle.live_host.proofs.LoweringWords.{read-as}

number-small : (word : Bytes) (n : ℕ) → word_number (2 ^ 64) word ≡ Some n → n < 2 ^ 64
number-small word n is =
    let read = read-as (2 ^ 64) word n is in
    let same = read.is in
    let small = read.below in
    omega (arith, same, small)

abbrev opens-in : Option (Shares × List Bytes) → ℕ
opens-in None = 0
opens-in (Some w) = w.0.opens

opens-small : (fields : List Bytes) (w : Shares × List Bytes) → shares_in fields ≡ Some w → w.0.opens < 2 ^ 64
opens-small fields w read =
    let one = some-then _ (number_behind (codes "own") fields) w read in
    let two = some-then _ (number_behind (codes "pair") one.0.1) w one.2 in
    let three = some-then _ (number_behind (codes "bytes") two.0.1) w two.2 in
    last one.0.0 two.0.0 three.0.0 three.0.1 (number_behind (codes "opens") three.0.1) refl three.2
  where
    last : (own pair bytes : ℕ) (rest : List Bytes) (o : Option (ℕ × List Bytes)) → number_behind (codes "opens") rest ≡ o
        → option_map
        (λ (opens : ℕ × List Bytes). (record { own = own; pair = pair; bytes = bytes; opens = opens.0 }, opens.1)) o ≡ Some w
        → w.0.opens < 2 ^ 64
    last own pair bytes rest None is same = absurd (cc)
    last own pair bytes rest (Some opens) is same =
        let behind = is-behind (codes "opens") opens.0 rest opens.1 is in
        let small = number-small behind.number opens.0 behind.is in
        subst (λ n. n < 2 ^ 64) (ap opens-in same) small

small-parts : (g : ℕ) (x : Declaration) (fields : List Bytes) → HasParts g x fields → IsSmallDeclaration x
small-parts g (declaration.Net b) fields parts = by (budgets_in parts.rest) (its-request g (declaration.Net b) parts)
  where
    by : (o : Option Budgets) → AreAllowed o (request.Declare (declaration.Net b)) → IsSmallDeclaration (declaration.Net b)
    by None h = absurd h
    by (Some c) h =
        let same : c ≡ b = cc in
        let events = h.0.few_events in
        let bytes = h.0.few_bytes in
        subst (λ b. IsSmallDeclaration (declaration.Net b)) same (omega (arith, events), omega (arith, bytes))
small-parts g (declaration.Node u q) fields parts = tt
small-parts g (declaration.Roster r) fields parts =
    by (shares_in parts.rest) refl (its-request g (declaration.Roster r) parts)
  where
    by : (o : Option (Shares × List Bytes)) → shares_in parts.rest ≡ o → IsReserved o (request.Declare (declaration.Roster r))
        → IsSmallDeclaration (declaration.Roster r)
    by None is h = absurd h
    by (Some w) is h =
        let same : h.0 ≡ r = cc in
        subst (λ r. IsSmallDeclaration (declaration.Roster r)) same
        (subst (λ s. s.opens < 2 ^ 64) (sym h.2) (opens-small parts.rest w is))

pub declarations_are_small : DeclarationsAreSmall
declarations_are_small fields g x asked = by (asks-script g x fields asked)
  where
    by : IsScriptOf g x fields → IsSmallDeclaration x
    by (inl (before, is, e, h)) = small-parts g x before (has-parts g x before h)
    by (inr (other, h)) = small-parts g x fields (has-parts g x fields h)
