-- What a page that comes back leaves, by its kind: after one from B2 q is raised; a new page is placed after trim.
use Rattle.std.proofs.Common.{◌≡◌, List, ℕ, ◌+◌, ◌≤◌, length, refl, sym, ◌∙◌, subst, arith}
use Rattle.figures.specs.Entry.{new_long}
use Rattle.figures.specs.Directory.{T1}
use Rattle.figures.specs.Words.{decode}
use Rattle.figures.specs.Cart as Cart
use Rattle.entries.specs.Holds.{Holds}
use Rattle.entries.specs.Stretches.{Room, start_of}
use Rattle.entries.specs.Returning.{Freed, Returned}
use Rattle.entries.proofs.ComingBack.{was_new}
use Rattle.entries.proofs.Laid.{header}
use Rattle.entries.proofs.Rooms.{room_for_new}
use Rattle.engine.specs.declared.kinds.Kind.{Kind}
use Rattle.engine.specs.Shown.{Makes}
use Rattle.cart.proofs.Trimming.{trim_fits}
use Rattle.cart.proofs.Placed.{from-B1, from-B2, new_page, raise_ready}
use Rattle.cart.proofs.place.Goals as goal

-- A new page leaves the words as they were.
unchanged : {page m n : ℕ} {w w₁ : List ℕ} {kind : Kind} → Returned (decode w) page (new_long page) T1 m n w w₁ kind
    → kind ≡ Kind.New → w₁ ≡ w
unchanged r is = (was_new r is).2

-- A page fits in after trim.
trimmed_room : {w w₁ w₂ : List ℕ} → Freed w → w₁ ≡ w → Makes Holds Cart.trim w₁ w₂
    → Room w₂ × (start_of 4 w₂ + 2 ≤ length w₂)
trimmed_room {w} f same trimmed =
    let d = decode w in
    let h = header d w f.is in
    room_for_new d (Cart.trim d) (trimmed d (f.is ∙ sym same))
    (trim_fits d (omega (arith, f.one_free)) (omega (arith, f.history_most))) (omega (arith, f.bounds))

pub raise-requires-clause-room : goal.raise-requires-clause-room
raise-requires-clause-room c =
    let s = c.requires in
    let back = c.come_back-kind.ensures (decode c.args.dir.now) (new_long c.args.page) _ _ s.freed.is refl refl refl refl in
    (raise_ready s.freed s.counts_fit back (λ new. cc)).0

pub raise-requires-clause-raisable : goal.raise-requires-clause-raisable
raise-requires-clause-raisable c =
    let s = c.requires in
    let back = c.come_back-kind.ensures (decode c.args.dir.now) (new_long c.args.page) _ _ s.freed.is refl refl refl refl in
    (raise_ready s.freed s.counts_fit back (λ new. cc)).1

pub returns-in-FromB2 : goal.returns-in-FromB2
returns-in-FromB2 c h is short long =
    from-B2 (c.come_back-kind.ensures h.dir (new_long c.args.page) _ h.n_l is refl refl refl long)
    c.in-FromB2.is (λ d on. rw short at (c.raise.ensures d on))

pub trim-requires : goal.trim-requires
trim-requires c =
    let s = c.requires in
    let back = c.come_back-kind.ensures (decode c.args.dir.now) (new_long c.args.page) _ _ s.freed.is refl refl refl refl in
    subst Freed (sym (unchanged back c.in-New.is)) s.freed

pub place_new-requires-clause-room : goal.place_new-requires-clause-room
place_new-requires-clause-room c =
    let s = c.requires in
    let back = c.come_back-kind.ensures (decode c.args.dir.now) (new_long c.args.page) _ _ s.freed.is refl refl refl refl in
    (trimmed_room s.freed (unchanged back c.in-New.is) c.trim.ensures).0

pub place_new-requires-clause-room_for_one : goal.place_new-requires-clause-room_for_one
place_new-requires-clause-room_for_one c =
    let s = c.requires in
    let back = c.come_back-kind.ensures (decode c.args.dir.now) (new_long c.args.page) _ _ s.freed.is refl refl refl refl in
    (trimmed_room s.freed (unchanged back c.in-New.is) c.trim.ensures).1

pub returns-in-New : goal.returns-in-New
returns-in-New c h is short long =
    new_page (c.come_back-kind.ensures h.dir (new_long c.args.page) _ _ is refl refl refl refl)
    c.in-New.is
    (λ same. c.place_new.ensures (Cart.trim h.dir) (c.trim.ensures h.dir (is ∙ sym same)))

pub returns-in_default : goal.returns-in_default
returns-in_default c h is short long =
    from-B1 (c.come_back-kind.ensures h.dir (new_long c.args.page) h.n_s _ is refl refl short refl)
    c.in_default.not-FromB2 c.in_default.not-New
