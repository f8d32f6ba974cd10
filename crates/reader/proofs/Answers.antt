-- The answer to a line or a file by its case, and what a line says where it is taken by its first word: a fault leaves the tables out of account.
use mathlib.Core.Path.{◌≡◌, refl, sym, ap, ◌∙◌, subst}
use mathlib.Core.List.{List, [], ◌∷◌}
use Prim.Native.Nat.{ℕ, zero-le}
use native.Mathlib.Omega.{arith}
use Rattle.std.proofs.Common.{Result, Ok, Err, MatchResult, IsErrAnd}
use Rattle.scan.specs.Text.{word_of}
use Rattle.scan.specs.declared.Word.{Word}
use Rattle.scan.specs.declared.Word.TheVariants.{End}
use Rattle.reader.specs.File.{Content, nothing_yet, body_literals, line_fault, extended, with_line, Outcome, accepted}
use Rattle.reader.specs.Loading.{number_of}
use Rattle.reader.specs.Tables.{Lists}
use Rattle.reader.specs.Steps.{no_counts, Counted, Step, line_step, word_step, Answered, LineRead, FileRead}
use Rattle.reader.specs.declared.Counts.{Counts}
use Rattle.reader.specs.declared.Fault.{Fault}
use Rattle.reader.specs.declared.Fault.TheVariants.{TooLong, StrangeByte, LastLineOpen, FieldsWrong, FormWrong, NameTaken, NameMissing, TableFull, EndNotLast}
use Rattle.keys.specs.declared.Names.{Names}

-- no fault has the number 0
pub faulty : (f : Fault) → number_of f ≡ 0 → ⊥
faulty TooLong e = omega arith
faulty StrangeByte e = omega arith
faulty LastLineOpen e = omega arith
faulty FieldsWrong e = omega arith
faulty FormWrong e = omega arith
faulty NameTaken e = omega arith
faulty NameMissing e = omega arith
faulty TableFull e = omega arith
faulty EndNotLast e = omega arith

pub by_word : (d : Content) (w : Word) {first : List ℕ} {fs others : List (List ℕ)} → fs ≡ first ∷ others → word_of first ≡ w → line_step d fs ≡ word_step d w others
unfolding line_fault with_line
by_word d w {others = others} part word = ap (line_step d) part ∙ ap (λ (x : Word). word_step d x others) word

pub line_fault_lem : (s : Step) (f : Fault) → s.fault ≡ number_of f → {names : Names} {l l' : Lists} → LineRead s (Err f) names l l'
line_fault_lem s f e = record { answer = e; stored = λ z. absurd (faulty f (sym e ∙ z)) }

-- `end` leaves the tables as they are
pub end_read : (d : Content) (others : List (List ℕ)) {r : Result Counts Fault} {names : Names} {l : Lists} → Answered (word_step d End others) r names
    → LineRead (word_step d End others) r names l l
unfolding extended
end_read d others a = record { answer = a; stored = λ z s. record { names_stored = s.names_stored; rules_stored = s.rules_stored } }

pub read_as : {s q : Step} {r : Result Counts Fault} {names : Names} {l l' : Lists} → q ≡ s → LineRead s r names l l' → LineRead q r names l l'
read_as {r = r} {names = names} {l = l} {l' = l'} e = subst (λ (x : Step). LineRead x r names l l') (sym e)

-- ---- a file

pub nothing_counted : Counted nothing_yet no_counts
unfolding body_literals
nothing_counted =
    record { names_are = refl; rules_are = refl; used_are = refl; ended_is = refl; fits = record { few_names = zero-le; few_rules = zero-le; few_literals = zero-le } }

-- a file that says nothing leaves the tables as they are
pub nothing_read : {o : Outcome} {t : Counts} {l : Lists} → t ≡ no_counts → o ≡ accepted [] [] → FileRead o (Ok t) l l
nothing_read e q = record { content = nothing_yet; outcome = q; counted = rw e nothing_counted; stored = λ s. s }

-- ---- an error that is made another: the answer before it

module _ {T E F : Type 0} (Q : E → F → Type 0) where
  value_of : T → Result T F → T
  value_of d (Ok x) = x
  value_of d (Err y) = d

  pub same_ok : (j : Result T E) {m : Result T F} → MatchResult j (λ x. m ≡ Ok x) (λ e. IsErrAnd m (Q e)) → (u : T) → m ≡ Ok u → j ≡ Ok u
  unfolding value_of
  same_ok (Ok x) h u e = ap Ok (ap (value_of x) (sym h ∙ e))
  same_ok (Err x) h u e = absurd (subst (λ (m : Result T F). IsErrAnd m (Q x)) e h)

  Failed : Result T F → Type 0
  Failed (Ok x) = ⊥
  Failed (Err y) = Unit {0}

  pub made_err : (j : Result T E) {m : Result T F} → MatchResult j (λ x. m ≡ Ok x) (λ e. IsErrAnd m (Q e)) → (r : F) → m ≡ Err r → (x : E) × (j ≡ Err x) × Q x r
  unfolding Failed
  made_err (Ok x) h r e = absurd (subst Failed (sym e ∙ h) tt)
  made_err (Err x) h r e = (x, refl, subst (λ (m : Result T F). IsErrAnd m (Q x)) e h)
