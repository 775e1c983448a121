-- From what a start and one event owe to the main promise. Assumes nothing.
use Rattle.std.proofs.Common.{◌≡◌, ℕ, ◌-◌, ◌≤◌, false, ◌⊎◌, List, [], ◌∷◌, ◌++◌, length, sym, refl, ap, ◌∙◌, subst, inl, inr, arith}
use Rattle.std.proofs.lemmas.List.{append-nil, append_assoc, length-append, take_all, take-append-le}
use Rattle.octets.proofs.Tests.{pick_false}
use Rattle.turns.specs.Core.{Core}
use Rattle.turns.specs.World.{World, run, begin, event}
use Rattle.turns.specs.Happens.{sure, sure_after, saves}
use Rattle.turns.specs.Promise.{Cut, Life, but_last, after, life_of, Moment, Lives, none, ends, cut, System, life_in, Goes, nothing, onward, cut_short, Row, Owed, KeepsPromise, Functions, system_of, goes, left_by, lives_in, SameShown, ComesUp}
use Rattle.turns.specs.Promise as promise
use Rattle.turns.specs.declared.vocabulary.Sizes.{Sizes}
use Rattle.turns.specs.declared.vocabulary.Event.{Event}
use Rattle.turns.proofs.Rows.{run_append, sure_more, sure_is_past}

but_last_more : (es : List Event) (e : Event) → but_last (es ++ e ∷ []) ≡ es
but_last_more es e =
    let n : length (es ++ e ∷ []) - 1 ≡ length es = rw length-append (omega arith) in
    rw n (take-append-le (length es) es (e ∷ []) (omega arith) ∙ take_all (length es) es (omega arith))

module _ {Cpu : Type 0} (core : Core Cpu) (z : Sizes) (fs : List (List ℕ)) where
  after_more : (es : List Event) (e : Event) → after core z fs (es ++ e ∷ []) ≡ event core z (after core z fs es) e
  unfolding after run
  after_more es e = run_append core z (begin core z fs) es (e ∷ [])

  -- the moment now
  now_moment : (us es : List Event) → length us ≤ length es → Moment core z fs us es (after core z fs es).files
  now_moment us es l =
      record {
        j = length es;
        kept = omega (arith, sure_is_past Cpu core z (begin core z fs) us);
        past = omega arith;
        files = ap (λ (xs : List Event). (after core z fs xs).files) (sym (take_all (length es) es (omega arith)));
      }

  -- a moment that was is one still, as long as nothing more is sure
  old_moment : (us vs es : List Event) (e : Event) (gs : List (List ℕ)) → sure core z (begin core z fs) vs ≤ sure core z (begin core z fs) us → Moment core z fs us es gs →
      Moment core z fs vs (es ++ e ∷ []) gs
  old_moment us vs es e gs l m =
      record {
        j = m.j;
        kept = omega (arith, m.kept);
        past = omega (arith, m.past, length-append es (e ∷ []));
        files = m.files ∙ ap (λ (xs : List Event). (after core z fs xs).files) (sym (take-append-le m.j es (e ∷ []) m.past));
      }

  -- what was no save makes nothing sure
  not_sure : (es : List Event) (e : Event) → saves core (after core z fs es) e ≡ false → sure core z (begin core z fs) (es ++ e ∷ []) ≤ sure core z (begin core z fs) es
  unfolding after
  not_sure es e h =
      let q : sure core z (begin core z fs) (es ++ e ∷ []) ≡ sure core z (begin core z fs) es = sure_more core z (begin core z fs) es e ∙ pick_false _ _ _ h in omega (arith, q)

module _ {Cpu S : Type 0} (y : System Cpu S) (o : Owed y) where
  -- a disc with the files of a moment
  abbrev OnDisc : Sizes → List (List ℕ) → List Event → List Event → List (List ℕ) → Type 0
  OnDisc z fs us es d = (gs : List (List ℕ)) × y.holds z d gs × Moment y.core z fs us es gs

  -- what is so after these events of a life: the system is like the world, its disc holds the files of a moment, and so does what a cut would leave
  record Living (z : Sizes) (fs : List (List ℕ)) (es : List Event) (d : List (List ℕ)) (s : S) : Type 0 where
    alike : y.like z s (after y.core z fs es)
    now_on : OnDisc z fs es es (y.disc s)
    cut_on : (c : Cut) → OnDisc z fs (but_last es) es (cut_short y d s c)

  begins : (z : Sizes) (d fs : List (List ℕ)) (s : S) → y.holds z d fs → y.starts z d s → Living z fs [] d s
  unfolding after run begin sure sure_after
  begins z d fs s h g =
      record {
        alike = o.start_like z d fs s h g;
        now_on = (fs, o.start_disc z d fs s h g, record { j = 0; kept = omega arith; past = omega arith; files = refl });
        cut_on = λ c. (fs, o.start_cut z d fs s c h g, record { j = 0; kept = omega arith; past = omega arith; files = refl });
      }

  lives_more : (z : Sizes) (fs : List (List ℕ)) (es : List Event) (d : List (List ℕ)) (s t : S) (e : Event) → Living z fs es d s → y.happens z s e t →
      Living z fs (es ++ e ∷ []) (y.disc s) t
  lives_more z fs es d s t e l g =
      record {
        alike = subst (y.like z t) (sym (after_more y.core z fs es e)) (o.event_like z s t _ e l.alike g);
        now_on = on_now (o.event_disc z s t _ n.0 e l.alike n.1 g);
        cut_on = λ c. subst (λ us. OnDisc z fs us (es ++ e ∷ []) (cut_short y (y.disc s) t c)) (sym (but_last_more es e)) (on_cut c (o.event_cut z s t _ n.0 e c l.alike n.1 g));
      }
    where
      n : OnDisc z fs es es (y.disc s)
      n = l.now_on

      longer : length es ≤ length (es ++ e ∷ [])
      longer = rw length-append (omega arith)

      files_then : (event y.core z (after y.core z fs es) e).files ≡ (after y.core z fs (es ++ e ∷ [])).files
      files_then = ap (λ (w : World Cpu). w.files) (sym (after_more y.core z fs es e))

      on_now : (y.holds z (y.disc t) n.0 × (saves y.core (after y.core z fs es) e ≡ false)) ⊎ y.holds z (y.disc t) (event y.core z (after y.core z fs es) e).files →
          OnDisc z fs (es ++ e ∷ []) (es ++ e ∷ []) (y.disc t)
      on_now (inl (h, q)) = (n.0, h, old_moment y.core z fs es (es ++ e ∷ []) es e n.0 (not_sure y.core z fs es e q) n.2)
      on_now (inr h) = ((after y.core z fs (es ++ e ∷ [])).files, subst (y.holds z (y.disc t)) files_then h, now_moment y.core z fs (es ++ e ∷ []) (es ++ e ∷ []) (omega arith))

      on_cut : (c : Cut) → y.holds z (cut_short y (y.disc s) t c) n.0 ⊎ y.holds z (cut_short y (y.disc s) t c) (event y.core z (after y.core z fs es) e).files →
          OnDisc z fs es (es ++ e ∷ []) (cut_short y (y.disc s) t c)
      on_cut c (inl h) = (n.0, h, old_moment y.core z fs es es es e n.0 (omega arith) n.2)
      on_cut c (inr h) = ((after y.core z fs (es ++ e ∷ [])).files, subst (y.holds z (cut_short y (y.disc s) t c)) files_then h, now_moment y.core z fs es (es ++ e ∷ []) longer)

  lives_on : (z : Sizes) (fs : List (List ℕ)) (us es : List Event) (d b : List (List ℕ)) (s u : S) → Living z fs us d s → Goes y z d s es b u → Living z fs (us ++ es) b u
  lives_on z fs us _ _ _ _ _ l (nothing d s) = subst (λ xs. Living z fs xs d s) (sym (append-nil us)) l
  lives_on z fs us _ _ _ _ _ l (onward d b s t u e es h g) =
      subst (λ xs. Living z fs xs b u) (append_assoc us (e ∷ []) es) (lives_on z fs (us ++ e ∷ []) es (y.disc s) b t u (lives_more z fs us d s t e l h) g)

  -- what is seen of a life is what the world has
  same_life : (z : Sizes) (fs : List (List ℕ)) (es : List Event) (d : List (List ℕ)) (s : S) → Living z fs es d s → life_of y.core z fs es ≡ life_in y es s
  unfolding life_of life_in
  same_life z fs es d s l = rw (o.same_shown z s _ l.alike, o.same_first z s _ l.alike)

  rows : (z : Sizes) (d e fs : List (List ℕ)) (ls : List Life) → y.holds z d fs → Row y z d ls e → (gs : List (List ℕ)) × y.holds z e gs × Lives y.core z fs ls gs
  rows z _ _ fs _ h (promise.none d) = (fs, h, none fs)
  rows z _ _ fs _ h (promise.ends d b s u es st g) =
      let l : Living z fs es b u = lives_on z fs [] es d b s u (begins z d fs s h st) g in
      let n : OnDisc z fs es es (y.disc u) = l.now_on in
      (n.0, n.1, subst (λ x. Lives y.core z fs (x ∷ []) n.0) (same_life z fs es b u l) (ends fs n.0 es n.2))
  rows z _ _ fs _ h (promise.cut d b e s u es rest st g c more) =
      let l : Living z fs es b u = lives_on z fs [] es d b s u (begins z d fs s h st) g in
      let n : OnDisc z fs (but_last es) es (cut_short y b u c) = l.cut_on c in
      let r = rows z (cut_short y b u c) e n.0 rest n.1 more in
      (r.0, r.1, subst (λ x. Lives y.core z fs (x ∷ rest) r.0) (same_life z fs es b u l) (cut fs n.0 r.0 es rest n.2 r.2))

  pub keeps_promise : KeepsPromise y
  keeps_promise z d e fs ls h r = rows z d e fs ls h r

module _ {Cpu S : Type 0} (f : Functions Cpu S) where
  goes_is : (z : Sizes) (d : List (List ℕ)) (s : S) (es : List Event) → Goes (system_of f) z d s es (goes f z d s es).0 (goes f z d s es).1
  unfolding goes
  goes_is z d s [] = nothing d s
  goes_is z d s (e ∷ es) = onward d _ s (f.happens z s e) _ e es refl (goes_is z (f.disc s) (f.happens z s e) es)

  -- the disc that is left after all these lives
  left_by_all : Sizes → List (List ℕ) → List (List Event × Cut) → List (List ℕ)
  left_by_all z d [] = d
  left_by_all z d (l ∷ ls) = left_by_all z (left_by f z d l.0 l.1) ls

  row_is : (z : Sizes) (d : List (List ℕ)) (ls : List (List Event × Cut)) → Row (system_of f) z d (lives_in f z d ls) (left_by_all z d ls)
  unfolding lives_in left_by left_by_all
  row_is z d [] = promise.none d
  row_is z d (l ∷ ls) = promise.cut d _ _ (f.start z d) _ l.0 _ refl (goes_is z d (f.start z d) l.0) l.1 (row_is z (left_by f z d l.0 l.1) ls)

  pub same_shown_by : KeepsPromise (system_of f) → SameShown f
  same_shown_by k z d fs ls h = let r = k z d _ fs _ h (row_is z d ls) in (r.0, r.2)

  pub comes_up_by : KeepsPromise (system_of f) → ComesUp f
  unfolding left_by_all
  comes_up_by k z d fs es c h = let r = k z d _ fs _ h (row_is z d ((es, c) ∷ [])) in (r.0, r.1)
