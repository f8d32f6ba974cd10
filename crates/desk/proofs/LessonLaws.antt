-- The laws of the calls on the desk's lesson: a change leaves what its arguments say and keeps the marks standing, and a call that reads changes nothing.
use mathlib.Core.Path.{◌≡◌, refl, sym, ◌∙◌, ap}
use mathlib.Core.Bool.{Bool}
use mathlib.Core.List.{List}
use mathlib.Core.Logic.{◌↔◌}
use Prim.Native.Nat.{ℕ}
use Rattle.wfsx.specs.Trees.{Tree}
use Rattle.search.specs.Questions.{question_of}
use Rattle.sheet.specs.declared.SheetEntry.{SheetEntry}
use Rattle.lesson.specs.State.{State}
use Rattle.lesson.specs.declared.Lesson.{Lesson}
use Rattle.lesson.specs.declared.Change.{Change}
use Rattle.lesson.proofs.Rows.{change_by, verdict_by, search_by, model_by, working_order_by}
use Rattle.lesson.proofs.Sound.{sound_change}
use Rattle.lesson.proofs.Standing.{change_stands}
use Rattle.lesson.proofs.ChangeLaws.{change_means, change_kept, change_exists}
use Rattle.lesson.proofs.Exists.{verdict_exists, search_exists, model_reply_exists, order_exists, groups_exists, listing_exists}
use Rattle.lesson.proofs.Listings.{listing_unwritten, listing_turned, preview_unwritten, preview_turned, preview_exists}
use Rattle.lesson.proofs.Sheets.{check_by, make_by, make_unwritten, check_exists, make_exists}
use Rattle.calls.specs.Lists.{CallSpec}
use Rattle.desk.specs.Calls.{state_of}
use Rattle.desk.specs.Runs.{change, verdict, search_for, model, working_order, model_by_groups, listing, preview, check_sheet, make_sheet, spec_of}
use Rattle.desk.specs.declared.Desk.{Desk}
use Rattle.desk.proofs.Laws.{Good, DeskLaws}

-- ---- putting in and taking out

pub change_laws : (c : Change) → DeskLaws (spec_of (change c))
change_laws c =
    record {
      means = λ k r g h. change_means k.shelf k.lesson c r.0 r.1 h;
      good = λ k r g h.
          record {
            sound = rw (change_means k.shelf k.lesson c r.0 r.1 h) (sound_change c (state_of k) g.sound);
            stands = change_stands k.shelf k.lesson g.stands c r.0 r.1 h;
          };
      exactly = λ k r g h number line. rw h.says (change_by (state_of k) c number);
      kept = λ k r h number line e. (ap (λ (l : Lesson). record { shelf = k.shelf; lesson = l }) (change_kept k.shelf k.lesson c r.0 r.1 h number e), record {});
      replies = λ k g. let w = change_exists k.shelf k.lesson c g.sound in ((w.0, w.1), w.2);
    }

-- ---- the calls that read

-- such a call owes its refusals, the bytes of a lent buffer where it is refused, and a reply
record ReadLaws (c : CallSpec Desk State) : Type 0 where
  pub stays : (d : State) → c.after d ≡ d
  pub leaves : (k : Desk) (r : c.Reply) → c.next k r ≡ k
  pub exactly : (k : Desk) (r : c.Reply) → Good k → c.Meets k r → (number line : ℕ) → c.RefusedBy r number line ↔ c.TurnsDown (state_of k) number line
  pub unwritten : (k : Desk) (r : c.Reply) → c.Meets k r → (number line : ℕ) → c.RefusedBy r number line → c.Unwritten r
  pub replies : (k : Desk) → Good k → (r : c.Reply) × c.Meets k r

reading : {c : CallSpec Desk State} → ReadLaws c → DeskLaws c
reading {c} h =
    record {
      means = λ k r g e. ap state_of (h.leaves k r) ∙ sym (h.stays (state_of k));
      good = λ k r g e. rw (h.leaves k r) g;
      exactly = h.exactly;
      kept = λ k r e number line q. (h.leaves k r, h.unwritten k r e number line q);
      replies = h.replies;
    }

pub verdict_laws : (A : ℕ) → DeskLaws (spec_of (verdict A))
verdict_laws A =
    reading
    (record {
      stays = λ d. refl;
      leaves = λ k r. refl;
      exactly = λ k r g h number line. rw h.says (verdict_by (state_of k) _ _ _ g.stands.contradictory_are A number);
      unwritten = λ k r h number line e. record {};
      replies = λ k g. verdict_exists k.shelf k.lesson A;
    })

pub search_laws : (A : ℕ) (default : Bool) (t : Tree) → DeskLaws (spec_of (search_for A default t))
search_laws A default t =
    reading
    (record {
      stays = λ d. refl;
      leaves = λ k r. refl;
      exactly = λ k r g h number line. rw h.says (search_by (state_of k) A t (question_of A default) number);
      unwritten = λ k r h number line e. record {};
      replies = λ k g. search_exists k.shelf k.lesson A t (question_of A default);
    })

pub model_laws : DeskLaws (spec_of model)
model_laws =
    reading
    (record {
      stays = λ d. refl;
      leaves = λ k r. refl;
      exactly = λ k r g h number line. rw h.says (model_by (state_of k) _ number);
      unwritten = λ k r h number line e. record {};
      replies = λ k g. model_reply_exists k.shelf k.lesson;
    })

pub order_laws : DeskLaws (spec_of working_order)
order_laws =
    reading
    (record {
      stays = λ d. refl;
      leaves = λ k r. refl;
      exactly = λ k r g h number line. rw h.says (working_order_by (state_of k) number);
      unwritten = λ k r h number line e. record {};
      replies = λ k g. order_exists k.shelf k.lesson;
    })

pub groups_laws : DeskLaws (spec_of model_by_groups)
groups_laws =
    reading
    (record {
      stays = λ d. refl;
      leaves = λ k r. refl;
      exactly = λ k r g h number line. rw h.says (model_by (state_of k) _ number);
      unwritten = λ k r h number line e. record {};
      replies = λ k g. groups_exists k.shelf k.lesson;
    })

pub listing_laws : (buffer : List ℕ) → DeskLaws (spec_of (listing buffer))
listing_laws buffer =
    reading
    (record {
      stays = λ d. refl;
      leaves = λ k r. refl;
      exactly = λ k r g h number line. listing_turned k.shelf k.lesson buffer r.0 r.1 h g.stands number;
      unwritten = λ k r h number line e. listing_unwritten k.shelf k.lesson buffer r.0 r.1 h number e;
      replies = λ k g. let w = listing_exists k.shelf k.lesson buffer in ((w.0, w.1), w.2);
    })

pub preview_laws : (c : Change) (buffer : List ℕ) → DeskLaws (spec_of (preview c buffer))
preview_laws c buffer =
    reading
    (record {
      stays = λ d. refl;
      leaves = λ k r. refl;
      exactly = λ k r g h number line. preview_turned k.shelf k.lesson c buffer r.0 r.1 h g.stands number;
      unwritten = λ k r h number line e. preview_unwritten k.shelf k.lesson c buffer r.0 r.1 h number e;
      replies = λ k g. let w = preview_exists k.shelf k.lesson c buffer g.sound in ((w.0, w.1), w.2);
    })

pub check_laws : (A : ℕ) (truth : Bool) (es : List SheetEntry) → DeskLaws (spec_of (check_sheet A truth es))
check_laws A truth es =
    reading
    (record {
      stays = λ d. refl;
      leaves = λ k r. refl;
      exactly = λ k r g h number line. rw h.says (check_by (state_of k) A truth es number);
      unwritten = λ k r h number line e. record {};
      replies = λ k g. check_exists k.shelf k.lesson A truth es;
    })

pub make_laws : (A : ℕ) (truth : Bool) (run : List SheetEntry) → DeskLaws (spec_of (make_sheet A truth run))
make_laws A truth run =
    reading
    (record {
      stays = λ d. refl;
      leaves = λ k r. refl;
      exactly = λ k r g h number line. make_by k.shelf k.lesson A truth run r.0 r.1 h g.sound number;
      unwritten = λ k r h number line e. make_unwritten k.shelf k.lesson A truth run r.0 r.1 h number e;
      replies = λ k g. let w = make_exists k.shelf k.lesson A truth g.sound run in ((w.0, w.1), w.2);
    })
