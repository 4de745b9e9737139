-- Events that are dealt to the networks, one after the other, and the networks in the order of their numbers.
use Rattle.std.proofs.Common.{◌≡◌, ◌∙◌, ◌==◌, ◌++◌, ℕ, Bool, true, false, cond, not, List, [], ◌∷◌, Option, Some, None, if◌then◌else◌, is_some, length, map, option_map, refl, sym, ap, subst, arith}
use Rattle.std.specs.List.{All, AllByRecursion}
use Rattle.std.specs.List.Sorted.{IsStrictlySortedBy}
use Rattle.std.specs.Ordering.{is_eq, nat_cmp}
use Rattle.std.specs.declared.cmp.Ordering.TheVariants.{Less}
use Rattle.std.specs.BTreeMap.{BTreeMap, IsOrdered, get, is_at, values}
use Rattle.std.specs.Map.{keys_of, lookup, values_of}
use Rattle.std.proofs.lemmas.Bool.{eqb-true}
use Rattle.std.proofs.lemmas.Bool.Decides.{nat_tests}
use Rattle.std.proofs.lemmas.List.{append-nil, append_assoc}
use Rattle.std.proofs.lemmas.List.Elements.{All-cons, All-nil, filter-append}
use Rattle.scp_types.specs.declared.event.Event.{Event}
use Rattle.scp_spec.specs.Hosts.{Config}
use Rattle.scp_spec.specs.Submissions.{config_of}
use Rattle.pool_script.specs.Dealing.{AreDealt, AreNetworkShares, HasShare, calls_elsewhere, calls_of}
use Rattle.pool_script.specs.declared.dealing.Share.{Share}

at_is : (g k : ℕ) → is_at (nat_cmp g) k ≡ (k == g)
at_is g k = grind (arith, nat_tests)

at_own : (g : ℕ) → is_at (nat_cmp g) g ≡ true
at_own g = grind (arith, nat_tests)

-- ---- a share of nothing for each network

-- some configurations were taken from the end, and each has its share
abbrev pub AreTaken : List Config → List Config → BTreeMap ℕ Share → Type 0
AreTaken all left shares = (taken : List Config) × (all ≡ left ++ taken) × AreDealt taken [] shares

pub none_taken : (all left : List Config) (shares : BTreeMap ℕ Share) → left ≡ all → shares.entries ≡ [] → AreTaken all left shares
none_taken all left shares is empty = ([], sym is ∙ sym (append-nil left), λ g. subst (λ es. HasShare [] [] g (lookup (is_at (nat_cmp g)) es)) (sym empty) refl)

pub one_taken : (all left rest : List Config) (c : Config) (s : Share) (g : ℕ) (old new : BTreeMap ℕ Share) → left ≡ rest ++ c ∷ [] → s.config ≡ c → s.calls.items ≡ [] → g ≡ c.number
    → ((q : ℕ) → get nat_cmp new q ≡ cond (is_at (nat_cmp g) q) (Some s) (get nat_cmp old q)) → AreTaken all left old → AreTaken all rest new
one_taken all left rest c s g old new is own empty number put before = (
  c ∷ before.0,
  before.1 ∙ ap (λ cs. cs ++ before.0) is ∙ append_assoc rest (c ∷ []) before.0,
  λ q. subst (HasShare (c ∷ before.0) [] q) (sym (put q ∙ ap (λ b. cond b (Some s) (get nat_cmp old q)) (at_is g q ∙ ap (λ n. q == n) number))) (go q (q == c.number) refl),
)
  where
    other : (q : ℕ) (o : Option Share) → (c.number == q) ≡ false → HasShare before.0 [] q o → HasShare (c ∷ before.0) [] q o
    other q None miss h = ap (λ b. if b then Some c else config_of before.0 q) miss ∙ h
    other q (Some t) miss h = (ap (λ b. if b then Some c else config_of before.0 q) miss ∙ h.0, h.1)

    go : (q : ℕ) (b : Bool) → (q == c.number) ≡ b → HasShare (c ∷ before.0) [] q (cond b (Some s) (get nat_cmp old q))
    go q true hit = (ap (λ t. if t then Some c else config_of before.0 q) (turned q hit) ∙ ap (λ d. Some d) (sym own), empty)
      where
        turned : (q : ℕ) → (q == c.number) ≡ true → (c.number == q) ≡ true
        turned q h = grind (arith, nat_tests)
    go q false miss = other q (get nat_cmp old q) (turned q miss) (before.2 q)
      where
        turned : (q : ℕ) → (q == c.number) ≡ false → (c.number == q) ≡ false
        turned q h = grind (arith, nat_tests)

pub all_taken : (all left : List Config) (shares : BTreeMap ℕ Share) → left ≡ [] → AreTaken all left shares → AreDealt all [] shares
all_taken all left shares none taken = subst (λ cs. AreDealt cs [] shares) (sym (taken.1 ∙ ap (λ cs. cs ++ taken.0) none)) taken.2

-- ---- one event more is dealt

module _ (configs : List Config) where
  -- some of the events were dealt, and those that are left
  pub record ArePartlyDealt (all left elsewhere : List (ℕ × Event)) (shares : BTreeMap ℕ Share) : Type 0 where
    pub done : List (ℕ × Event)
    pub parts : all ≡ done ++ left
    pub dealt : AreDealt configs done shares
    pub others : elsewhere ≡ calls_elsewhere configs done

  pub none_dealt : (all left : List (ℕ × Event)) (elsewhere : List (ℕ × Event)) (shares : BTreeMap ℕ Share) → left ≡ all → elsewhere ≡ [] → AreDealt configs [] shares → ArePartlyDealt all left elsewhere shares
  none_dealt all left elsewhere shares is empty dealt = record { done = []; parts = sym is; dealt = dealt; others = empty }

  own_more : (g : ℕ) (done : List (ℕ × Event)) (call : ℕ × Event) → (call.0 == g) ≡ true → calls_of g (done ++ call ∷ []) ≡ calls_of g done ++ call ∷ []
  own_more g done call hit = filter-append (λ c. c.0 == g) done (call ∷ []) ∙ ap (λ b. calls_of g done ++ (if b then call ∷ [] else [])) hit

  other_more : (g : ℕ) (done : List (ℕ × Event)) (call : ℕ × Event) → (call.0 == g) ≡ false → calls_of g (done ++ call ∷ []) ≡ calls_of g done
  other_more g done call miss = filter-append (λ c. c.0 == g) done (call ∷ []) ∙ ap (λ b. calls_of g done ++ (if b then call ∷ [] else [])) miss ∙ append-nil (calls_of g done)

  elsewhere_more : (done : List (ℕ × Event)) (call : ℕ × Event) (o : Option Config) → config_of configs call.0 ≡ o
      → calls_elsewhere configs (done ++ call ∷ []) ≡ calls_elsewhere configs done ++ (if not (is_some o) then call ∷ [] else [])
  elsewhere_more done call o is = filter-append (λ c. not (is_some (config_of configs c.0))) done (call ∷ []) ∙ ap (λ p. calls_elsewhere configs done ++ (if not (is_some p) then call ∷ [] else [])) is

  others_share : (q : ℕ) (done : List (ℕ × Event)) (call : ℕ × Event) (o : Option Share) → (call.0 == q) ≡ false → HasShare configs done q o → HasShare configs (done ++ call ∷ []) q o
  others_share q done call None miss h = h
  others_share q done call (Some t) miss h = (h.0, h.1 ∙ sym (other_more q done call miss))

  -- to a network
  pub dealt_one : (all left rest elsewhere : List (ℕ × Event)) (call : ℕ × Event) (s t : Share) (old new : BTreeMap ℕ Share) → left ≡ call ∷ rest → Some s ≡ get nat_cmp old call.0 → t.config ≡ s.config
      → t.calls.items ≡ s.calls.items ++ call ∷ [] → ((q : ℕ) → get nat_cmp new q ≡ cond (is_at (nat_cmp call.0) q) (Some t) (get nat_cmp old q))
      → ArePartlyDealt all left elsewhere old → ArePartlyDealt all rest elsewhere new
  dealt_one all left rest elsewhere call s t old new is found same longer put before =
      let own : HasShare configs before.done call.0 (Some s) = subst (HasShare configs before.done call.0) (sym found) (before.dealt call.0) in
      record {
        done = before.done ++ call ∷ [];
        parts = before.parts ∙ ap (λ cs. before.done ++ cs) is ∙ sym (append_assoc before.done (call ∷ []) rest);
        dealt = λ q. subst (HasShare configs (before.done ++ call ∷ []) q) (sym (put q ∙ ap (λ b. cond b (Some t) (get nat_cmp old q)) (at_is call.0 q))) (go own q (q == call.0) refl);
        others = before.others ∙ sym (elsewhere_more before.done call (Some s.config) own.0 ∙ append-nil (calls_elsewhere configs before.done));
      }
    where
      turned : (q : ℕ) (b : Bool) → (q == call.0) ≡ b → (call.0 == q) ≡ b
      turned q b h = grind (arith, nat_tests)

      go : HasShare configs before.done call.0 (Some s) → (q : ℕ) (b : Bool) → (q == call.0) ≡ b → HasShare configs (before.done ++ call ∷ []) q (cond b (Some t) (get nat_cmp old q))
      go own q true hit =
          let here : q ≡ call.0 = eqb-true q call.0 hit in
          let calls : t.calls.items ≡ calls_of q (before.done ++ call ∷ []) =
          longer ∙ ap (λ cs. cs ++ call ∷ []) (own.1 ∙ ap (λ g. calls_of g before.done) (sym here)) ∙ sym (own_more q before.done call (turned q true hit)) in
          (ap (config_of configs) here ∙ own.0 ∙ ap (λ c. Some c) (sym same), calls)
      go own q false miss = others_share q before.done call (get nat_cmp old q) (turned q false miss) (before.dealt q)

  -- to none
  pub dealt_elsewhere : (all left rest elsewhere more : List (ℕ × Event)) (call : ℕ × Event) (shares : BTreeMap ℕ Share) → left ≡ call ∷ rest → None ≡ get nat_cmp shares call.0 → more ≡ elsewhere ++ call ∷ []
      → ArePartlyDealt all left elsewhere shares → ArePartlyDealt all rest more shares
  dealt_elsewhere all left rest elsewhere more call shares is none longer before =
      let lacks : config_of configs call.0 ≡ None = subst (HasShare configs before.done call.0) (sym none) (before.dealt call.0) in
      record {
        done = before.done ++ call ∷ [];
        parts = before.parts ∙ ap (λ cs. before.done ++ cs) is ∙ sym (append_assoc before.done (call ∷ []) rest);
        dealt = λ q. go lacks q (get nat_cmp shares q) refl (before.dealt q);
        others = longer ∙ ap (λ cs. cs ++ call ∷ []) before.others ∙ sym (elsewhere_more before.done call None lacks);
      }
    where
      apart : (q : ℕ) (t : Share) (b : Bool) → (call.0 == q) ≡ b → get nat_cmp shares q ≡ Some t → (call.0 == q) ≡ false
      apart q t true hit h = let here : call.0 ≡ q = eqb-true call.0 q hit in absurd (cc)
      apart q t false miss h = miss

      go : config_of configs call.0 ≡ None → (q : ℕ) (o : Option Share) → get nat_cmp shares q ≡ o → HasShare configs before.done q o → HasShare configs (before.done ++ call ∷ []) q o
      go lacks q None e h = h
      go lacks q (Some t) e h = others_share q before.done call (Some t) (apart q t (call.0 == q) refl e) h

  -- ---- the networks in order

  head_at : (e : ℕ × Share) (es : List (ℕ × Share)) → lookup (is_at (nat_cmp e.0)) (e ∷ es) ≡ Some e.1
  head_at e es = ap (λ b. cond b (Some e.1) (lookup (is_at (nat_cmp e.0)) es)) (at_own e.0)

  none_behind : (k : ℕ) (es : List (ℕ × Share)) → AllByRecursion (λ y. nat_cmp k y ≡ Less) (keys_of es) → lookup (is_at (nat_cmp k)) es ≡ None
  none_behind k [] h = refl
  none_behind k (x ∷ xs) h = ap (λ o. cond (is_eq o) (Some x.1) (lookup (is_at (nat_cmp k)) xs)) h.0 ∙ none_behind k xs h.1

  -- what is true of what is found is true of each entry
  each_found : (P : ℕ → Share → Type 0) (es : List (ℕ × Share)) → IsStrictlySortedBy nat_cmp (keys_of es) → ((g : ℕ) (s : Share) → lookup (is_at (nat_cmp g)) es ≡ Some s → P g s) → AllByRecursion (λ e. P e.0 e.1) es
  unfolding IsStrictlySortedBy
  each_found P [] up h = tt
  each_found P (e ∷ es) up h = (h e.0 e.1 (head_at e es), each_found P es up.1 (λ g s found. h g s (later g s found (is_at (nat_cmp g) e.0) refl)))
    where
      later : (g : ℕ) (s : Share) → lookup (is_at (nat_cmp g)) es ≡ Some s → (b : Bool) → is_at (nat_cmp g) e.0 ≡ b → lookup (is_at (nat_cmp g)) (e ∷ es) ≡ Some s
      later g s found true hit =
          let here : e.0 ≡ g = eqb-true e.0 g (sym (at_is g e.0) ∙ hit) in
          let none : lookup (is_at (nat_cmp g)) es ≡ None = subst (λ k. lookup (is_at (nat_cmp k)) es ≡ None) here (none_behind e.0 es up.0) in
          absurd (cc)
      later g s found false miss = ap (λ b. cond b (Some e.1) (lookup (is_at (nat_cmp g)) es)) miss ∙ found

  of_number : (cs : List Config) (g : ℕ) (c : Config) → config_of cs g ≡ Some c → c.number ≡ g
  of_number [] g c h = absurd (cc)
  of_number (d ∷ ds) g c h = go (of_number ds g c) (d.number == g) refl h
    where
      go : (config_of ds g ≡ Some c → c.number ≡ g) → (b : Bool) → (d.number == g) ≡ b → (if b then Some d else config_of ds g) ≡ Some c → c.number ≡ g
      go rest true hit h = let same : c ≡ d = cc in ap (λ (k : Config). k.number) same ∙ eqb-true d.number g hit
      go rest false miss h = rest h

  module _ (calls : List (ℕ × Event)) where
    abbrev AreOwn : List (ℕ × Share) → Type 0
    AreOwn es = AllByRecursion (λ e. HasShare configs calls e.0 (Some e.1)) es

    numbers_are : (es : List (ℕ × Share)) → AreOwn es → map (λ s. s.config.number) (values_of es) ≡ keys_of es
    numbers_are [] h = refl
    numbers_are (e ∷ es) h = λ i. of_number configs e.0 e.1.config h.0.0 i ∷ numbers_are es h.1 i

    values_own : (es : List (ℕ × Share)) → AreOwn es → All (λ s. s.calls.items ≡ calls_of s.config.number calls) (values_of es)
    values_own [] h = All-nil (λ (s : Share). s.calls.items ≡ calls_of s.config.number calls)
    values_own (e ∷ es) h =
        All-cons (λ s. s.calls.items ≡ calls_of s.config.number calls) e.1 (values_of es) (h.0.1 ∙ ap (λ g. calls_of g calls) (sym (of_number configs e.0 e.1.config h.0.0))) (values_own es h.1)

    configs_are : (es : List (ℕ × Share)) → AreOwn es → (g : ℕ) → config_of (map (λ s. s.config) (values_of es)) g ≡ option_map (λ s. s.config) (lookup (is_at (nat_cmp g)) es)
    configs_are [] h g = refl
    configs_are (e ∷ es) h g = go (configs_are es h.1 g) (is_at (nat_cmp g) e.0) refl
      where
        test : (e.1.config.number == g) ≡ is_at (nat_cmp g) e.0
        test = ap (λ n. n == g) (of_number configs e.0 e.1.config h.0.0) ∙ sym (at_is g e.0)

        go : (config_of (map (λ s. s.config) (values_of es)) g ≡ option_map (λ s. s.config) (lookup (is_at (nat_cmp g)) es)) → (b : Bool) → is_at (nat_cmp g) e.0 ≡ b → config_of (map (λ s. s.config) (values_of (e ∷ es))) g ≡ option_map (λ s. s.config) (lookup (is_at (nat_cmp g)) (e ∷ es))
        go rest true hit =
            ap (λ b. if b then Some e.1.config else config_of (map (λ s. s.config) (values_of es)) g) (test ∙ hit)
            ∙ ap (λ b. option_map (λ s. s.config) (cond b (Some e.1) (lookup (is_at (nat_cmp g)) es))) (sym hit)
        go rest false miss =
            ap (λ b. if b then Some e.1.config else config_of (map (λ s. s.config) (values_of es)) g) (test ∙ miss) ∙ rest
            ∙ ap (λ b. option_map (λ s. s.config) (cond b (Some e.1) (lookup (is_at (nat_cmp g)) es))) (sym miss)

    declared : (g : ℕ) (o : Option Share) → HasShare configs calls g o → option_map (λ s. s.config) o ≡ config_of configs g
    declared g None h = sym h
    declared g (Some s) h = sym h.0

    in_order : (shares : BTreeMap ℕ Share) → IsOrdered nat_cmp shares → AreDealt configs calls shares → AreNetworkShares configs calls (values shares)
    in_order shares up dealt =
        let own : AreOwn shares.entries = each_found (λ g s. HasShare configs calls g (Some s)) shares.entries up (λ g s found. subst (HasShare configs calls g) found (dealt g)) in
        record {
          rising = subst (IsStrictlySortedBy nat_cmp) (sym (numbers_are shares.entries own)) up;
          all = λ g. configs_are shares.entries own g ∙ declared g (get nat_cmp shares g) (dealt g);
          own = values_own shares.entries own;
        }

  none_left : (left : List (ℕ × Event)) → length left ≡ 0 → left ≡ []
  none_left [] h = refl
  none_left (x ∷ xs) h = absurd (omega (arith, h))

  pub all_dealt : (all left elsewhere : List (ℕ × Event)) (shares : BTreeMap ℕ Share) (ascending : List Share) (rest : List (ℕ × Share)) → length left ≡ 0 → ascending ++ values_of rest ≡ values shares → rest ≡ [] → IsOrdered nat_cmp shares
      → ArePartlyDealt all left elsewhere shares → AreNetworkShares configs all ascending
  all_dealt all left elsewhere shares ascending rest empty parts none up end =
      let whole : end.done ≡ all = sym (append-nil end.done) ∙ ap (λ cs. end.done ++ cs) (sym (none_left left empty)) ∙ sym end.parts in
      let is : values shares ≡ ascending = sym parts ∙ ap (λ es. ascending ++ values_of es) none ∙ append-nil ascending in
      subst (λ (z : List (ℕ × Event) × List Share). AreNetworkShares configs z.0 z.1) (λ i. (whole i, is i)) (in_order end.done shares up end.dealt)
