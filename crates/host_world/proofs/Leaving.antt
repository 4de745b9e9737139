-- A journal leaves.
use Rattle.std.proofs.Common.{◌≡◌, ◌∙◌, ◌<◌, ◌==◌, ℕ, suc, Bool, true, false, not, List, [], ◌∷◌, ◌++◌, take, drop, length, get_or, filter, map, Option, Some, None, option_map, if◌then◌else◌, refl, sym, ap, ap₂, subst, arith}
use Rattle.std.specs.List.{remove}
use Rattle.std.proofs.lemmas.Bool.{eqb-true}
use Rattle.std.proofs.lemmas.Bool.Decides.{nat_tests}
use Rattle.std.proofs.lemmas.List.{map-append, take-map, drop-map}
use Rattle.std.proofs.lemmas.List.Edits.{length-remove}
use Rattle.std.proofs.lemmas.List.Quantifiers.{all_pairs_remove}
use Rattle.scp_spec.specs.Sets.{IsAscending}
use Rattle.scp_spec.specs.Hosts.{Config, History, entries, journal, new_net}
use Rattle.host_network.specs.Decoding.{reading}
use Rattle.host_config.specs.Configs.{index_in}
use Rattle.host_journal.specs.Logs.{Log}
use Rattle.host_world.specs.Worlds.{AreByNumber, AreJournalsOf, history_without, log_at, logs_without, numbers_of}
use Rattle.host_world.proofs.Histories.{history-journal, others-left}

-- ---- by place

-- where all are above a number, none is of it
none-there : (g : ℕ) (ls : List Log) → ((n : ℕ) → n < length (numbers_of ls) → g < get_or (numbers_of ls) n 0) → logs_without g ls ≡ ls
none-there g [] above = refl
none-there g (l ∷ ls) above =
    ap (λ b. if not b then l ∷ logs_without g ls else logs_without g ls) (differs g l.config.number (above 0 (omega arith)))
    ∙ ap (λ ks. l ∷ ks) (none-there g ls (λ n h. above (suc n) (omega (arith, h))))
  where
    differs : (a b : ℕ) → a < b → (b == a) ≡ false
    differs a b h = grind (arith, nat_tests, h)

later : (x : ℕ) (xs : List ℕ) → IsAscending (x ∷ xs) → IsAscending xs
later x xs up m n d l h = up (suc m) (suc n) d (omega (arith, l)) (omega (arith, h))

-- all but the one at the place of a number
pub removed-is : (ls : List Log) (g k : ℕ) → IsAscending (numbers_of ls) → index_in (numbers_of ls) g ≡ Some k → remove ls k ≡ logs_without g ls
removed-is [] g k up h = absurd (cc)
removed-is (l ∷ ls) g k up h = go (l.config.number == g) refl (index_in (numbers_of ls) g) (λ j e. removed-is ls g j (later l.config.number (numbers_of ls) up) e) refl h
  where
    go : (b : Bool) → (l.config.number == g) ≡ b → (o : Option ℕ) → ((j : ℕ) → index_in (numbers_of ls) g ≡ Some j → remove ls j ≡ logs_without g ls) → index_in (numbers_of ls) g ≡ o → (if b then Some 0 else option_map suc o) ≡ Some k → remove (l ∷ ls) k ≡ (if not b then l ∷ logs_without g ls else logs_without g ls)
    go true y o rest e q =
        let z : 0 ≡ k = cc in
        subst (λ n. remove (l ∷ ls) n ≡ logs_without g ls) z
        (sym (none-there g ls (λ n h. subst (λ x. x < get_or (numbers_of ls) n 0) (eqb-true l.config.number g y) (up 0 (suc n) 0 (omega arith) (omega (arith, h))))))
    go false y None rest e q = absurd (cc)
    go false y (Some j) rest e q =
        let z : suc j ≡ k = cc in
        subst (λ n. remove (l ∷ ls) n ≡ l ∷ logs_without g ls) z
        (ap (λ ks. l ∷ ks) (rest j e))

pub left-by-number : (ns : List ℕ) (ls : List Log) (k : ℕ) → (ns ≡ numbers_of ls) × AreByNumber ls → k < length ls → (remove ns k ≡ numbers_of (remove ls k)) × AreByNumber (remove ls k)
left-by-number ns ls k h inside =
    (ap (λ (xs : List ℕ). remove xs k) h.0 ∙ sym same, (subst IsAscending (sym same) (all_pairs_remove (λ x y. x < y) (numbers_of ls) k (subst (λ n. k < n) (sym (numbers-length ls)) inside) h.1.0), let less = length-remove ls k inside in let few = h.1.1 in omega (arith, less, few)))
  where
    numbers-length : (ks : List Log) → length (numbers_of ks) ≡ length ks
    numbers-length [] = refl
    numbers-length (l ∷ ks) = ap suc (numbers-length ks)

    same : numbers_of (remove ls k) ≡ remove (numbers_of ls) k
    same =
        map-append (λ (z : Log). z.config.number) (take k ls) (drop (suc k) ls)
        ∙ ap₂ {C = List ℕ} (λ (a b : List ℕ). a ++ b) (sym (take-map (λ (z : Log). z.config.number) k ls)) (sym (drop-map (λ (z : Log). z.config.number) (suc k) ls))

pub none-left-out : (g : ℕ) (ls : List Log) → log_at ls g ≡ None → logs_without g ls ≡ ls
none-left-out g [] none = refl
none-left-out g (l ∷ ls) none = go (l.config.number == g) none (none-left-out g ls)
  where
    go : (b : Bool) → (if b then Some l else log_at ls g) ≡ None → (log_at ls g ≡ None → logs_without g ls ≡ ls) → (if not b then l ∷ logs_without g ls else logs_without g ls) ≡ l ∷ ls
    go true h ih = absurd (cc)
    go false h ih = ap (λ ks. l ∷ ks) (ih h)

-- ---- by number

-- what stands at each number
pub at-left : (g : ℕ) (ls : List Log) (j : ℕ) → log_at (logs_without g ls) j ≡ (if g == j then None else log_at ls j)
at-left g [] j = by (g == j)
  where
    by : (b : Bool) → ◌≡◌ {A = Option Log} None (if b then None else None)
    by true = refl
    by false = refl
at-left g (l ∷ ls) j = go (l.config.number == g) refl (at-left g ls j)
  where
    flip : (a b : ℕ) → (a == b) ≡ (b == a)
    flip a b = grind (arith, nat_tests)

    go : (b : Bool) → (l.config.number == g) ≡ b → log_at (logs_without g ls) j ≡ (if g == j then None else log_at ls j)
        → log_at (if not b then l ∷ logs_without g ls else logs_without g ls) j ≡ (if g == j then None else (if l.config.number == j then Some l else log_at ls j))
    go true y ih = by (g == j) (ap (λ n. n == j) (eqb-true l.config.number g y)) ih
      where
        by : (c : Bool) → (l.config.number == j) ≡ c → log_at (logs_without g ls) j ≡ (if c then None else log_at ls j) → log_at (logs_without g ls) j ≡ (if c then None else (if l.config.number == j then Some l else log_at ls j))
        by true z r = r
        by false z r = r ∙ ap (λ c. if c then Some l else log_at ls j) (sym z)
    go false y ih = by (l.config.number == j) refl (g == j) refl ih
      where
        by : (a : Bool) → (l.config.number == j) ≡ a → (c : Bool) → (g == j) ≡ c → log_at (logs_without g ls) j ≡ (if c then None else log_at ls j) → (if a then Some l else log_at (logs_without g ls) j) ≡ (if c then None else (if a then Some l else log_at ls j))
        by true z true w r = absurd (both-not l.config.number g y (eqb-true l.config.number j z ∙ sym (eqb-true g j w)))
          where
            both-not : (a b : ℕ) → (a == b) ≡ false → a ≡ b → ⊥
            both-not a b h e = grind (arith, nat_tests, h, e)
        by true z false w r = refl
        by false z c w r = r

-- ---- histories

configs-left : (g : ℕ) (ls : List Log) → map (λ k. k.config) (logs_without g ls) ≡ filter (λ c. not (c.number == g)) (map (λ k. k.config) ls)
configs-left g [] = refl
configs-left g (l ∷ ls) = go (l.config.number == g) (configs-left g ls)
  where
    go : (b : Bool) → map (λ k. k.config) (logs_without g ls) ≡ filter (λ c. not (c.number == g)) (map (λ k. k.config) ls)
        → map (λ k. k.config) (if not b then l ∷ logs_without g ls else logs_without g ls) ≡ (if not b then l.config ∷ filter (λ c. not (c.number == g)) (map (λ k. k.config) ls) else filter (λ c. not (c.number == g)) (map (λ k. k.config) ls))
    go true ih = ih
    go false ih = ap (λ (cs : List Config). l.config ∷ cs) ih

pub history-left : (h : History) (ls : List Log) (g : ℕ) → AreJournalsOf h ls → AreJournalsOf (history_without g h) (logs_without g ls)
history-left h ls g own_is = record { configs = configs-are; entries = λ j m found. each j m found (g == j) refl }
  where
    configs-are : map (λ k. k.config) (logs_without g ls) ≡ filter (λ c. not (c.number == g)) h.configs
    configs-are = configs-left g ls ∙ ap (λ (cs : List Config). filter (λ c. not (c.number == g)) cs) own_is.configs

    each : (j : ℕ) (m : Log) → log_at (logs_without g ls) j ≡ Some m → (b : Bool) → (g == j) ≡ b → m.entries ≡ entries reading (history_without g h) j
    each j m found true y = absurd (let none : None ≡ Some m = sym (at-left g ls j ∙ ap (λ b. if b then None else log_at ls j) y) ∙ found in cc)
    each j m found false y =
        let at : log_at ls j ≡ Some m = sym (at-left g ls j ∙ ap (λ b. if b then None else log_at ls j) y) ∙ found in
        own_is.entries j m at ∙ history-journal h ls j m own_is.configs at ∙ ap (journal (new_net m.config)) (sym (others-left g j h.calls y))
        ∙ sym (history-journal (history_without g h) (logs_without g ls) j m configs-are found)
