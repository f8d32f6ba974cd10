-- Only the rules for reached names matter. The one law is `carry`: on a set W of names, what one program derives another derives too, where each of its rules
-- for W is a rule of the other that speaks of W alone, or has a head that the other has anyway. Relevance and the steps group by group are both made of it.
use mathlib.Core.Path.{◌≡◌, refl, ◌∙◌, ap, subst}
use mathlib.Core.Logic.{◌⊎◌, inl, inr}
use mathlib.Core.Bool.{true, not}
use mathlib.Core.List.Memᴰ
use Prim.Native.Nat.{ℕ, zero, suc, ◌+◌, ◌*◌, ◌/◌}
use native.Mathlib.Omega.{arith}
use lib.ListN.{length}
use borrow.Author.Tests.{not-false}
use Rattle.wfsx.specs.Sets.{Set, ◌∈◌, ◌is_in◌}
use Rattle.wfsx.specs.Program.{compl, Entry, positive, default, Rule, Program, seminormal_rule, seminormal}
use Rattle.wfsx.specs.Model.{holds, every, supported, Γ, Γs, I, M, N, verdict}
use Rattle.wfsx.specs.Reach.{name_of, name_in, name_for, reach, literals_of, rules_for, reached_rules}
use Rattle.truth.proofs.Truth.{same_test, not_mono}
use Rattle.wfsx.proofs.Sets.{⊆_antisym}
use Rattle.wfsx.proofs.Program.{compl_even, compl_odd, of_name}
use Rattle.wfsx.proofs.Supported.{every_intro, every_elim, supported_intro, supported_elim}
use Rattle.wfsx.proofs.Parts.{without_intro, without_elim}
use Rattle.wfsx.proofs.Operators.{Γ-fixed, Γ-ind, I⊆M}
use Rattle.wfsx.proofs.Reach.{reach_itself, reach_body, reach_ind, reach_inside}

-- S lies in U as far as the literals of W go
abbrev pub On : Set → Set → Set → Type 0
On W S U = (A : ℕ) → name_of A ∈ W → A ∈ S → A ∈ U

-- a rule speaks of W alone
abbrev pub Speaks : Set → Rule → Type 0
Speaks W r = (e : Entry) → e is_in r.body → name_in e ∈ W

holds_on : (W : Set) {D E S U : Set} → On W D E → On W U S → (e : Entry) → name_in e ∈ W → holds D S e ≡ true → holds E U e ≡ true
holds_on W d s (positive B) w h = d B w h
holds_on W {S = S} d s (default C) w h = not_mono (S C) (s C w) h

pub carry : (W : Set) (P Q : Program) {S U : Set} → On W U S
    → ((r : Rule) → r is_in P → name_for r ∈ W → r.head ∈ Γ P S → (r.head ∈ Γ Q U) ⊎ (r is_in Q × Speaks W r)) → On W (Γ P S) (Γ Q U)
carry W P Q {S} {U} s given A w h = Γ-ind P S (λ B. name_of B ∈ W → B ∈ Γ Q U) step A h w
  where
    step : (D : Set) → ((B : ℕ) → B ∈ D → name_of B ∈ W → B ∈ Γ Q U) → (B : ℕ) → B ∈ Γ P S → B ∈ supported P (holds D S) → name_of B ∈ W → B ∈ Γ Q U
    step D d B b i v = go (supported_elim P (holds D S) B i)
      where
        go : (r : Rule) × r is_in P × (r.head ≡ B) × (every (holds D S) r.body ≡ true) → B ∈ Γ Q U
        go (r, m, e, f) = rw e at (last (given r m (rw e v) (rw e b)))
          where
            last : (r.head ∈ Γ Q U) ⊎ (r is_in Q × Speaks W r) → r.head ∈ Γ Q U
            last (inl x) = x
            last (inr q) =
                rw (Γ-fixed Q U) (supported_intro Q (holds (Γ Q U) U) r q.0 (every_intro (holds (Γ Q U) U) r.body
                (λ x k. holds_on W (λ C c l. d C l c) s x (q.1 x k) (every_elim (holds D S) r.body f x k))))

-- ---- the seminormal version

same_name : (A : ℕ) → name_of (compl A) ≡ name_of A
same_name A = go (of_name A)
  where
    go : (A ≡ 2 * (A / 2)) ⊎ (A ≡ 2 * (A / 2) + 1) → name_of (compl A) ≡ name_of A
    go (inl e) = let c : compl A ≡ 2 * (A / 2) + 1 = ap compl e ∙ compl_even (A / 2) in omega arith
    go (inr e) = let c : compl A ≡ 2 * (A / 2) = ap compl e ∙ compl_odd (A / 2) in omega arith

seminormal_in : (P : Program) (r : Rule) → r is_in P → seminormal_rule r is_in seminormal P
seminormal_in P r m = Memᴰ.map seminormal_rule m

seminormal_speaks : (W : Set) (r : Rule) → name_for r ∈ W → Speaks W r → Speaks W (seminormal_rule r)
seminormal_speaks W r h s e (Memᴰ.head q) = rw q (rw (same_name r.head) h)
seminormal_speaks W r h s e (Memᴰ.tail m) = s e m

-- `carry` for Γs
pub carry_s : (W : Set) (P Q : Program) {S U : Set} → On W U S
    → ((r : Rule) → r is_in P → name_for r ∈ W → r.head ∈ Γs P S → (r.head ∈ Γs Q U) ⊎ (r is_in Q × Speaks W r)) → On W (Γs P S) (Γs Q U)
unfolding Γs
carry_s W P Q {S} {U} s given = carry W (seminormal P) (seminormal Q) s each
  where
    each : (r : Rule) → r is_in seminormal P → name_for r ∈ W → r.head ∈ Γ (seminormal P) S → (r.head ∈ Γ (seminormal Q) U) ⊎ (r is_in seminormal Q × Speaks W r)
    each r m w h = go (Memᴰ.of_map seminormal_rule P m)
      where
        go : (q : Rule) × q is_in P × (seminormal_rule q ≡ r) → (r.head ∈ Γ (seminormal Q) U) ⊎ (r is_in seminormal Q × Speaks W r)
        go (q, i, e) =
            subst (λ (x : Rule). (x.head ∈ Γ (seminormal Q) U) ⊎ (x is_in seminormal Q × Speaks W x)) e (last (given q i (rw (← e) at w) (rw (← e) at h)))
          where
            last : (q.head ∈ Γ (seminormal Q) U) ⊎ (q is_in Q × Speaks W q)
                → (q.head ∈ Γ (seminormal Q) U) ⊎ (seminormal_rule q is_in seminormal Q × Speaks W (seminormal_rule q))
            last (inl x) = inl x
            last (inr x) = inr (seminormal_in Q q x.0, seminormal_speaks W q (rw (← e) at w) x.1)

-- ---- two programs with the same rules for W, which speak of W alone

-- Q has the rules of P for W
abbrev pub Has : Set → Program → Program → Type 0
Has W Q P = (r : Rule) → name_for r ∈ W → r is_in P → r is_in Q

-- W is closed downward: the rules of P for names of W speak of W alone
abbrev pub Downward : Program → Set → Type 0
Downward P W = (r : Rule) → r is_in P → name_for r ∈ W → Speaks W r

module _ (W : Set) (P Q : Program) (down : Downward P W) (has : Has W Q P) where
  Γ-on : {S U : Set} → On W U S → On W (Γ P S) (Γ Q U)
  Γ-on s = carry W P Q s (λ r m w h. inr (has r w m, down r m w))

  Γs-on : {S U : Set} → On W U S → On W (Γs P S) (Γs Q U)
  Γs-on s = carry_s W P Q s (λ r m w h. inr (has r w m, down r m w))

module _ (W : Set) (P Q : Program) (p : Downward P W) (q : Downward Q W) (f : Has W Q P) (g : Has W P Q) where
  I-on : (k : ℕ) → On W (I P k) (I Q k)
  unfolding I
  I-on zero A w h = h
  I-on (suc k) A w h = Γ-on W P Q p f (Γs-on W Q P q g (I-on k)) A w h

  M-on : On W (M P) (M Q)
  unfolding M
  M-on A w h = I⊆M Q (length P) A (I-on (length P) A w h)

module _ (W : Set) (P Q : Program) (p : Downward P W) (f : Has W Q P) (g : Has W P Q) where
  other : Downward Q W
  other r m w = p r (g r w m) w

  pub M-relevant : (A : ℕ) → name_of A ∈ W → M P A ≡ M Q A
  M-relevant A w = same_test (M-on W P Q p other f g A w) (M-on W Q P other p g f A w)

  pub N-relevant : (A : ℕ) → name_of A ∈ W → N P A ≡ N Q A
  unfolding N
  N-relevant A w = same_test (Γs-on W P Q p f (M-on W Q P other p g f) A w) (Γs-on W Q P other g (M-on W P Q p other f g) A w)

  pub verdict_relevant : (A : ℕ) → name_of A ∈ W → verdict P A ≡ verdict Q A
  unfolding verdict
  verdict_relevant A w = rw (M-relevant A w, N-relevant A w) refl

-- ---- the rules for W

pub for_intro : (W : Set) (P : Program) (r : Rule) → r is_in P → name_for r ∈ W → r is_in rules_for W P
unfolding rules_for
for_intro W P r m w = without_intro (λ A. not (literals_of W A)) P r m (ap not w)

pub for_elim : (W : Set) (P : Program) (r : Rule) → r is_in rules_for W P → r is_in P × (name_for r ∈ W)
unfolding rules_for
for_elim W P r m = let w = without_elim (λ A. not (literals_of W A)) P r m in (w.0, not-false (W (name_for r)) w.1)

-- ---- what the name of a literal reaches

pub reach_down : (P : Program) (n : ℕ) → Downward P (reach P n)
reach_down P n r m w e i = reach_body P n r e m w i

module _ (P : Program) (n : ℕ) where
  there : Has (reach P n) (reached_rules P n) P
  there r w m = for_intro (reach P n) P r m w

  back : Has (reach P n) P (reached_rules P n)
  back r w m = (for_elim (reach P n) P r m).0

  pub M-reached : (A : ℕ) → name_of A ∈ reach P n → M P A ≡ M (reached_rules P n) A
  M-reached = M-relevant (reach P n) P (reached_rules P n) (reach_down P n) there back

  pub N-reached : (A : ℕ) → name_of A ∈ reach P n → N P A ≡ N (reached_rules P n) A
  N-reached = N-relevant (reach P n) P (reached_rules P n) (reach_down P n) there back

  pub verdict_reached : (A : ℕ) → name_of A ∈ reach P n → verdict P A ≡ verdict (reached_rules P n) A
  verdict_reached = verdict_relevant (reach P n) P (reached_rules P n) (reach_down P n) there back

-- Rules for names not reached alter nothing: a program with the same rules for the names that n reaches lets n reach the same names, and has the same verdicts there.
module _ (P Q : Program) (n : ℕ) (f : Has (reach P n) Q P) (g : Has (reach P n) P Q) where
  pub reach_unaltered : reach P n ≡ reach Q n
  reach_unaltered = ⊆_antisym (λ k h. (there' k h).0) (reach_inside Q n (reach P n) (reach_itself P n) (λ r e m w i. reach_body P n r e (g r w m) w i))
    where
      there' : (k : ℕ) → k ∈ reach P n → (k ∈ reach Q n) × (k ∈ reach P n)
      there' = reach_ind P n (λ k. (k ∈ reach Q n) × (k ∈ reach P n)) (reach_itself Q n, reach_itself P n)
          (λ r e m w i. (reach_body Q n r e (f r w.1 m) w.0 i, reach_body P n r e m w.1 i))

  pub M-unaltered : (A : ℕ) → name_of A ∈ reach P n → M P A ≡ M Q A
  M-unaltered = M-relevant (reach P n) P Q (reach_down P n) f g

  pub N-unaltered : (A : ℕ) → name_of A ∈ reach P n → N P A ≡ N Q A
  N-unaltered = N-relevant (reach P n) P Q (reach_down P n) f g

  pub verdict_unaltered : (A : ℕ) → name_of A ∈ reach P n → verdict P A ≡ verdict Q A
  verdict_unaltered = verdict_relevant (reach P n) P Q (reach_down P n) f g
