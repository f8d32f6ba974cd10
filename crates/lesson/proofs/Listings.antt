-- What the listing call and the preview owe. A preview is the change of a copy of the lesson and the listing of that copy. Whatever copy the change's contract
-- allows, the answer and the bytes are the same: it fixes what the copy has of its own and the sets of its marks, and the listing is made from these.
use mathlib.Core.Path.{◌≡◌, refl, sym, ◌∙◌, ap}
use mathlib.Core.Bool.{Bool, true, false, cond}
use mathlib.Core.Logic.{inl, inr}
use mathlib.Core.List.{List}
use Prim.Native.Nat.{ℕ}
use native.Mathlib.Omega.{arith}
use lib.Dec.{leb}
use lib.ListN.{length}
use Rattle.lister.specs.declared.Marks.{Marks}
use Rattle.std.specs.Prelude.{Result, Ok, Err}
use Rattle.lesson.specs.State.{BookState, Own, State, its_names, in_force, program_in, none_loaded, if_loaded, gives, refused, number_of, told, acknowledged, told_done, change_says, listing_says, changed, state_after, buffer_after}
use Rattle.lesson.specs.Calls.{shelf_of, own_of, meaning_of, Standing, MarksAfter, ChangesTo, LessonAfter, Changes, bytes_of, Lists, FollowedBy, Previews}
use Rattle.lesson.specs.Conditions.{change_rows, listing_rows, preview_rows}
use Rattle.lesson.specs.declared.Shelf.{Shelf}
use Rattle.lesson.specs.declared.Lesson.{Lesson}
use Rattle.lesson.specs.declared.Change.{Change}
use Rattle.lesson.specs.declared.Refusal.{Refusal}
use Rattle.lesson.proofs.Order.{given_refused, refused_same}
use Rattle.lesson.proofs.Refusals.{refusal_same, told_same}
use Rattle.lesson.proofs.Sound.{Sound}
use Rattle.lesson.proofs.Standing.{change_stands, bytes_stand}
use Rattle.lesson.proofs.ChangeLaws.{change_means, change_not_27, change_exists}
use Rattle.lesson.proofs.Exists.{listing_exists}
use Rattle.lesson.proofs.Rows.{By, after_given, after_refused, change_by, listing_by_lem}

-- ---- the listing call

module _ (s : Shelf) (l : Lesson) (before : List ℕ) (r : Result ℕ Refusal) (after : List ℕ) (h : Lists s l before r after) where
  pub listing_unwritten : (n : ℕ) → told r ≡ refused n → after ≡ before
  listing_unwritten n e = h.buffer ∙ ap (buffer_after (bytes_of s l) before) e

  pub listing_turned : Standing s l → By (told r) (listing_rows (meaning_of s l) before)
  listing_turned stands = rw (h.says, bytes_stand s l stands) (listing_by_lem (meaning_of s l) before)

-- ---- the code's preview, by what the change answered

module _ (s : Shelf) (l : Lesson) (c : Change) (copy : Lesson) (before : List ℕ) where
  pub preview_listed : Changes s l c (Ok tt) copy → (r : Result ℕ Refusal) (after : List ℕ) → Lists s copy before r after → Previews s l c before r after
  preview_listed h r after w = record { answer = Ok tt; copy = copy; changes = h; followed = w }

  pub preview_refused : (e : Refusal) → Changes s l c (Err e) copy → Previews s l c before (Err e) before
  preview_refused e h = record { answer = Err e; copy = copy; changes = h; followed = (refl, refl) }

-- ---- whatever copy, the same answer and the same bytes

-- no listing is turned down by 27
listing_not_27 : (b : BookState) (bytes buffer : List ℕ) → listing_says b bytes buffer ≡ refused 27 → ⊥
unfolding listing_says if_loaded
listing_not_27 b bytes buffer = go (none_loaded b) (leb (length bytes) (length buffer))
  where
    go : (a t : Bool) → cond a (refused 20) (cond t (gives (length bytes)) (refused 25)) ≡ refused 27 → ⊥
    go true t e = let z = refused_same 20 27 e in omega arith
    go false true e = given_refused (length bytes) 27 e
    go false false e = let z = refused_same 25 27 e in omega arith

module _ (s : Shelf) (l : Lesson) where
  module _ (own : Own) (m n : Lesson) (to-m : ChangesTo s l own m) (to-n : ChangesTo s l own n) where
    abbrev After : Marks → Type 0
    After = MarksAfter l (in_force own) (length (its_names (shelf_of s))) (program_in (record { book = shelf_of s; own = own }))

    same_own : own_of m ≡ own_of n
    same_own = to-m.own_is ∙ sym to-n.own_is

    same_bytes_lem : bytes_of s m ≡ bytes_of s n
    same_bytes_lem = go to-m.marks_are to-n.marks_are
      where
        go : After m.marks → After n.marks → bytes_of s m ≡ bytes_of s n
        go (inl v) (inl w) = rw (same_own, v.1, w.1) refl
        go (inl v) (inr w) = absurd (w.0 v.0)
        go (inr v) (inl w) = absurd (v.0 w.0)
        go (inr v) (inr w) =
            let a = v.1.model_is in
            let b = w.1.model_is in
            rw (same_own, a.truths ∙ sym b.truths, a.nonfalse ∙ sym b.nonfalse, a.rounds ∙ sym b.rounds, v.1.contradictory_are ∙ sym w.1.contradictory_are) refl

  module _ (before after end : List ℕ) (r q : Result ℕ Refusal) where
    same_listing : (m n : Lesson) → bytes_of s m ≡ bytes_of s n → Lists s m before r after → Lists s n before q end → (r ≡ q) × (after ≡ end)
    same_listing m n e h k =
        let said : told r ≡ told q = h.says ∙ rw e (sym k.says) in
        (told_same r q said (λ z. listing_not_27 (shelf_of s) (bytes_of s m) before (sym h.says ∙ z)), h.buffer ∙ rw (e, said) (sym k.buffer))

    same_followed : (c : Change) (a b : Result (Unit {0}) Refusal) (m n : Lesson) → told_done a ≡ change_says (meaning_of s l) c → told_done b ≡ change_says (meaning_of s l) c
        → LessonAfter s l (changed c (own_of l)) a m → LessonAfter s l (changed c (own_of l)) b n
        → FollowedBy s a m before r after → FollowedBy s b n before q end → (r ≡ q) × (after ≡ end)
    same_followed c (Ok x) (Ok y) m n d e to-m to-n h k = same_listing m n (same_bytes_lem (changed c (own_of l)) m n to-m to-n) h k
    same_followed c (Ok x) (Err f) _ _ d e to-m to-n h k = absurd (given_refused acknowledged (number_of f) (d ∙ sym e))
    same_followed c (Err f) (Ok x) _ _ d e to-m to-n h k = absurd (given_refused acknowledged (number_of f) (e ∙ sym d))
    same_followed c (Err f) (Err g) _ _ d e to-m to-n h k =
        let same = refusal_same f g (refused_same _ _ (d ∙ sym e)) (λ z. change_not_27 (meaning_of s l) c (sym d ∙ ap refused z)) in
        (h.0 ∙ ap Err same ∙ sym k.0, h.1 ∙ sym k.1)

    -- The answer and the bytes of a preview equal those of every change of a copy and every listing of that copy.
    pub preview_same : (c : Change) → Previews s l c before r after → Previews s l c before q end → (r ≡ q) × (after ≡ end)
    preview_same c h k = same_followed c h.answer k.answer h.copy k.copy h.changes.says k.changes.says h.changes.leaves k.changes.leaves h.followed k.followed

-- ---- its refusals, and some reply

module _ (s : Shelf) (l : Lesson) (c : Change) (before : List ℕ) where
  module _ (r : Result ℕ Refusal) (after : List ℕ) (h : Previews s l c before r after) where
    pub preview_unwritten : (n : ℕ) → told r ≡ refused n → after ≡ before
    preview_unwritten n e = go h.answer h.followed
      where
        go : (a : Result (Unit {0}) Refusal) → FollowedBy s a h.copy before r after → after ≡ before
        go (Ok done) w = listing_unwritten s h.copy before r after w n e
        go (Err f) w = w.1

    pub copy_means : meaning_of s h.copy ≡ state_after (meaning_of s l) c
    copy_means = change_means s l c h.answer h.copy h.changes

    module _ (stands : Standing s l) where
      pub copy_stands : Standing s h.copy
      copy_stands = change_stands s l stands c h.answer h.copy h.changes

      -- the conditions of the change, then those of the listing of what it leaves
      pub preview_turned : By (told r) (preview_rows (meaning_of s l) c before)
      preview_turned = go h.answer h.changes.says h.followed
        where
          d : State
          d = meaning_of s l

          go : (a : Result (Unit {0}) Refusal) → told_done a ≡ change_says d c → FollowedBy s a h.copy before r after → By (told r) (preview_rows d c before)
          go (Ok done) e w =
              after_given acknowledged (change_rows d c) (rw (← e) at (change_by d c)) (listing_rows (state_after d c) before) _
              (rw copy_means at (listing_turned s h.copy before r after w copy_stands))
          go (Err f) e w = rw w.0 (after_refused (number_of f) (change_rows d c) (rw (← e) at (change_by d c)) (listing_rows (state_after d c) before))

  pub preview_exists : Sound (meaning_of s l) → (r : Result ℕ Refusal) × (after : List ℕ) × Previews s l c before r after
  preview_exists sound = let q = change_exists s l c sound in go q.0 q.1 q.2
    where
      go : (a : Result (Unit {0}) Refusal) (copy : Lesson) → Changes s l c a copy → (r : Result ℕ Refusal) × (after : List ℕ) × Previews s l c before r after
      go (Ok done) copy h = let w = listing_exists s copy before in (w.0, w.1, preview_listed s l c copy before h w.0 w.1 w.2)
      go (Err f) copy h = (Err f, before, preview_refused s l c copy before f h)
