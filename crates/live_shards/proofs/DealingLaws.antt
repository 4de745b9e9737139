-- To which shard a line goes.
use Rattle.std.specs.Prelude.{◌≡◌, ◌<◌, ◌≤◌, ◌%◌, ◌&&◌, nat_lt, not, is_some, ℕ, Bool, true, false, List, [], ◌∷◌, Option, Some, None, unwrap_or}
use Rattle.std.specs.List.{onto_first}
use Rattle.std.proofs.Common.{◌∙◌, inl, inr, refl, sym, ap, subst, arith, eqb-true, true≢false}
use Rattle.std.proofs.lemmas.Bool.Decides.{Decides-ltb}
use Rattle.std.proofs.lemmas.Nat.{mod_below}
use Rattle.line_script.specs.Script.{AreFields, Bytes, IsBad, IsSkipped}
use Rattle.live_feed.specs.Served.{LineReply}
use Rattle.line_request.specs.Asking.{IsAskedOf}
use Rattle.line_request.specs.Outlines.{waiting_at}
use Rattle.line_request.specs.declared.ask.Ask.{Ask}
use Rattle.line_request.specs.declared.ask.Ask.TheVariants as ask
use Rattle.line_request.specs.declared.request.Declaration.TheVariants as declaration
use Rattle.scp_spec.specs.Networks.{Budgets}
use Rattle.live_host.specs.Apart.{HasRoomToAnswer}
use Rattle.live_host.specs.Hosts.{IsAskAnswered, IsBadLine, Live, live_at}
use Rattle.live_shards.specs.Asked.{cut_at_spaces, is_net, network_in}
use Rattle.live_shards.specs.Dealing.{IsAnsweredInVain, IsDealt, IsNetLine}
use Rattle.live_shards.specs.Parts.{networks_of, place_of}
use Rattle.live_shards.specs.declared.dealing.Dealt.{Dealt}
use Rattle.live_shards.proofs.Fields.{fields_by_cut}
use Rattle.live_shards.proofs.Nets.{nets_declare_networks}
use Rattle.live_shards.proofs.Words.{asked_networks_are_named, only_nets_declare_networks}

-- ---- a line
-- what begins with `net` is not skipped
pub net_is_whole : (line : Bytes) → is_net (cut_at_spaces line) ≡ true → IsSkipped line → ⊥
net_is_whole [] is skipped = true≢false (sym is)
net_is_whole (b ∷ more) is skipped = true≢false (sym is ∙ ap (λ c. is_net (cut_at_spaces (c ∷ more))) (eqb-true b 35 skipped.0) ∙ by (cut_at_spaces more))
  where
    by : (words : List Bytes) → is_net (onto_first 35 words) ≡ false
    by [] = refl
    by (word ∷ words) = refl

-- what does not begin with `net` needs no room
needs-none : (fields : List Bytes) (g : ℕ) (asked : Ask) (l : Live) → is_net fields ≡ false → IsAskedOf fields (Some (g, asked)) → HasRoomToAnswer asked l
needs-none fields g (ask.Declare (declaration.Net b)) l quiet asks = absurd (true≢false (sym (only_nets_declare_networks fields g b asks) ∙ quiet))
needs-none fields g (ask.Declare (declaration.Node u q)) l quiet asks = tt
needs-none fields g (ask.Declare (declaration.Roster r)) l quiet asks = tt
needs-none fields g (ask.Serve e) l quiet asks = tt
needs-none fields g (ask.ForAll bytes) l quiet asks = tt
needs-none fields g ask.Drop l quiet asks = tt
needs-none fields g ask.Left l quiet asks = tt
needs-none fields g (ask.Show i u) l quiet asks = tt

pub dealt_by_cut : (count : ℕ) (line : Bytes) (dealt : Dealt) → 0 < count → dealt.place ≡ unwrap_or (network_in (cut_at_spaces line)) 0 % count → dealt.declares ≡ is_net (cut_at_spaces line) → IsDealt count (Some line) dealt
dealt_by_cut count line dealt some at net = record {
  within = subst (λ (k : ℕ). k < count) (sym at) (mod_below (unwrap_or (network_in (cut_at_spaces line)) 0) count some);
  place = λ whole fields g asked are asks.
      let named : network_in (cut_at_spaces line) ≡ Some g = ap network_in (fields_by_cut line fields whole are) ∙ asked_networks_are_named fields g asked asks in
      ap (λ (o : Option ℕ). place_of count (unwrap_or o 0)) (sym named) ∙ sym at;
  quiet = λ none l whole fields g asked are asks.
      needs-none fields g asked l (ap is_net (sym (fields_by_cut line fields whole are)) ∙ sym net ∙ none) asks;
}

pub dealt_nowhere : (count : ℕ) (dealt : Dealt) → 0 < count → dealt.place ≡ 0 → IsDealt count None dealt
dealt_nowhere count dealt some first = record { within = subst (λ (k : ℕ). k < count) (sym first) some; place = tt; quiet = λ none l. tt }

-- ---- a network for which there is no room
none-left : (a b : Bool) (n : ℕ) → 4096 ≤ n → (a && (b && nat_lt n 4096)) ≡ false
none-left false b n full = refl
none-left true false n full = refl
none-left true true n full = by (nat_lt n 4096) refl
  where
    by : (is : Bool) → nat_lt n 4096 ≡ is → nat_lt n 4096 ≡ false
    by true is = let less : n < 4096 = (Decides-ltb n 4096).0 is in absurd (omega (arith, less, full))
    by false is = is

vain : (n g : ℕ) (asked : Ask) (a : LineReply) (l : Live) → (budgets : Budgets) × (asked ≡ ask.Declare (declaration.Net budgets)) → (x y : Live) → IsBadLine n x a y → 4096 ≤ networks_of l → IsAskAnswered n g asked l a l
vain n g asked a l (budgets, is) x y bad full = subst (λ o. IsAskAnswered n g o l a l) (sym is)
    (false, (none-left (not (is_some (waiting_at l.waiting g))) (not (is_some (live_at l g))) (networks_of l) full, refl), bad.0)

pub answered_in_vain : (n : ℕ) (line : Bytes) (fields : List Bytes) (asked : Option (ℕ × Ask)) (a : LineReply) → IsNetLine (Some line) → AreFields line fields → IsAskedOf fields asked → (x y : Live) → IsBadLine n x a y
    → IsAnsweredInVain n (Some line) a
answered_in_vain n line fields None a net are asks x y bad l full = inr (net_is_whole line net, inr (fields, are, (None, asks, (bad.0, refl))))
answered_in_vain n line fields (Some (g, asked)) a net are asks x y bad l full =
    let whole = net_is_whole line net in
    let is_net_too : is_net fields ≡ true = ap is_net (sym (fields_by_cut line fields whole are)) ∙ net in
    inr (whole, inr (fields, are, (Some (g, asked), asks, vain n g asked a l (nets_declare_networks fields g asked is_net_too asks) x y bad full)))

pub bad_in_vain : (n : ℕ) (line : Bytes) (a : LineReply) → IsBad line → (x y : Live) → IsBadLine n x a y → IsAnsweredInVain n (Some line) a
bad_in_vain n line a is x y bad l full = inr (is.0, inl (is, (bad.0, refl)))
