-- Lemmas on writing the frames of parcels.
use Rattle.std.proofs.Common.{◌≡◌, ℕ, List, [], ◌∷◌, ◌++◌, Bool, true, false, Option, Result, Ok, Err, OnOk, OnErr, map, refl, sym, ap, subst, ◌∙◌, append_assoc, append-nil}
use Rattle.std.specs.List.{flat_map}
use Rattle.std.specs.Io.KnownBytes.{Appends}
use Rattle.std.proofs.KnownBytes.{Appends-nil, Appends-trans}
use Rattle.std.proofs.lemmas.List.{map-append}
use Rattle.std.proofs.lemmas.List.Concat.{flat_map-append}
use Rattle.wl_broker.proofs.SpeechLists.{AllByRecursion-append}
use Rattle.wl_board.specs.declared.tab.Life.{Life}
use Rattle.wl_board.specs.declared.tab.Life.TheVariants as life
use Rattle.wl_grammar.specs.declared.frame.Frame.{Frame}
use Rattle.wl_grammar.specs.Grammar.{IsWellFormed, spelling}
use Rattle.wl_grammar.specs.Prefixes.{IsPrefixOf}
use Rattle.wl_frames.specs.Device.{WritesPrefix}
use Rattle.wl_grammar.proofs.Prefixes.{append-IsPrefixOf}
use Rattle.wl_outbox.specs.Parcels.{Packed}
use Rattle.wl_outbox.specs.MergeLaws.{IsPickedFrom, nothing, picks, leaves}
use Rattle.wl_outbox.specs.Passes.{Handed, IsSamePass}
use Rattle.wl_workers.specs.CallRecords.{RecordGrows}
use Rattle.wl_workers.specs.Looks.{at_tab, FindsDead, LooksOnly, FoundDead}
use Rattle.wl_workers.specs.TabWriter.{IsWritten, WritesFrames, WritesTab}
use Rattle.wl_workers.proofs.ToldLemmas.{Grows-nil, Grows-trans}

-- One frame

-- A lost frame writes nothing.
pub writes_nothing : (f : Frame) (a : Option (List ℕ)) (has_failed : Bool) → has_failed ≡ false → WritesFrames (f ∷ []) a a has_failed
writes_nothing f a has_failed sound = record {
  kept = [];
  output = [];
  keeps = (leaves f [] [] nothing, tt);
  appended = Appends-nil a;
  written = subst (λ b. IsWritten b [] []) (sym sound) refl;
}

pub writes_one : (f : Frame) (a b : Option (List ℕ)) (bytes : List ℕ) (has_failed : Bool) → IsWellFormed f → bytes ≡ spelling f → has_failed ≡ false → Appends a b bytes → WritesFrames (f ∷ []) a b has_failed
writes_one f a b bytes has_failed form is sound appended = record {
  kept = f ∷ [];
  output = bytes;
  keeps = (picks f [] [] nothing, (form, tt));
  appended = appended;
  written = subst (λ c. IsWritten c bytes (f ∷ [])) (sym sound) (is ∙ sym (append-nil (spelling f)));
}

pub writes_part : (f : Frame) (a b : Option (List ℕ)) (bytes : List ℕ) (has_failed : Bool) → IsWellFormed f → bytes ≡ spelling f → has_failed ≡ true → WritesPrefix a b bytes → WritesFrames (f ∷ []) a b has_failed
writes_part f a b bytes has_failed form is failed h = record {
  kept = f ∷ [];
  output = h.0;
  keeps = (picks f [] [] nothing, (form, tt));
  appended = h.2;
  written = subst (λ c. IsWritten c h.0 (f ∷ [])) (sym failed) (subst (IsPrefixOf h.0) (is ∙ sym (append-nil (spelling f))) h.1);
}

-- One frame is written according to the writer's result.
pub writes_by : {E : Type 0} (f : Frame) (a b : Option (List ℕ)) (bytes : List ℕ) (r : Result (Unit {0}) E) (was now : Bool) → IsWellFormed f → bytes ≡ spelling f → was ≡ false → OnOk r (Appends a b bytes)
    → OnOk r (now ≡ was) → OnErr r ((now ≡ true) × WritesPrefix a b bytes) → WritesFrames (f ∷ []) a b now
writes_by f a b bytes (Ok done) was now form is sound appended same failed = writes_one f a b bytes now form is (same ∙ sound) appended
writes_by f a b bytes (Err e) was now form is sound appended same failed = writes_part f a b bytes now form is failed.0 failed.1

-- One frame after another

IsPickedFrom-append : {A : Type 0} (xs ys us vs : List A) → IsPickedFrom xs us → IsPickedFrom ys vs → IsPickedFrom (xs ++ ys) (us ++ vs)
IsPickedFrom-append xs ys us vs nothing q = q
IsPickedFrom-append xs ys us vs (picks x ws bs p) q = picks x (ws ++ ys) (bs ++ vs) (IsPickedFrom-append ws ys bs vs p q)
IsPickedFrom-append xs ys us vs (leaves y ws bs p) q = leaves y (ws ++ ys) (bs ++ vs) (IsPickedFrom-append ws ys bs vs p q)

written_more : (output more : List ℕ) (kept next : List Frame) (has_failed : Bool) → output ≡ flat_map spelling kept → IsWritten has_failed more next → IsWritten has_failed (output ++ more) (kept ++ next)
written_more output more kept next false is h = ap (λ l. l ++ more) is ∙ ap (λ l. flat_map spelling kept ++ l) h ∙ sym (flat_map-append spelling kept next)
written_more output more kept next true is h =
    subst (IsPrefixOf (output ++ more)) (ap (λ l. l ++ flat_map spelling next) is ∙ sym (flat_map-append spelling kept next)) (append-IsPrefixOf output more (flat_map spelling next) h)

WritesTab-none : (taken : List Packed) (a : Option (List ℕ)) → WritesTab taken taken a a false
WritesTab-none taken a = record {
  taken = [];
  all = sym (append-nil taken);
  writes = record { kept = []; output = []; keeps = (nothing, tt); appended = Appends-nil a; written = refl };
}

pub WritesTab-more : (start old new : List Packed) (p : Packed) (f : Frame) (a b c : Option (List ℕ)) (was has_failed : Bool) → WritesTab start old a b was → was ≡ false → new ≡ old ++ p ∷ [] → f ≡ p.frame
    → WritesFrames (f ∷ []) b c has_failed
    → WritesTab start new a c has_failed
WritesTab-more start old new p f a b c true has_failed h sound is same w = absurd cc
WritesTab-more start old new p f a b c false has_failed h sound is same w =
    let k = h.writes in
    let picked : IsPickedFrom w.kept (p.frame ∷ []) = subst (λ g. IsPickedFrom w.kept (g ∷ [])) same w.keeps.0 in record {
      taken = h.taken ++ p ∷ [];
      all = is ∙ ap (λ l. l ++ p ∷ []) h.all ∙ append_assoc start h.taken (p ∷ []);
      writes = record {
        kept = k.kept ++ w.kept;
        output = k.output ++ w.output;
        keeps = (
          subst (IsPickedFrom (k.kept ++ w.kept)) (sym (map-append (λ (q : Packed). q.frame) h.taken (p ∷ []))) (IsPickedFrom-append k.kept w.kept (map (λ (q : Packed). q.frame) h.taken) (p.frame ∷ []) k.keeps.0 picked),
          AllByRecursion-append IsWellFormed k.kept w.kept k.keeps.1 w.keeps.1,
        );
        appended = Appends-trans a b c k.output w.output k.appended w.appended;
        written = written_more k.output w.output k.kept w.kept has_failed k.written w.written;
      };
    }

-- At first no parcel is taken.
pub WritesTab-start : (taken : List Packed) (a : Option (List ℕ)) (has_failed : Bool) → has_failed ≡ false → WritesTab taken taken a a has_failed
WritesTab-start taken a has_failed sound = subst (λ b. WritesTab taken taken a a b) (sym sound) (WritesTab-none taken a)

-- Taking no parcel writes nothing.
pub WritesTab-still : (start : List Packed) (old new : Handed) (a b : Option (List ℕ)) (has_failed : Bool) → WritesTab start old.view.parcels a b has_failed → new ≡ old → WritesTab start new.view.parcels a b has_failed
WritesTab-still start old new a b has_failed h same = subst (λ (p : Handed). WritesTab start p.view.parcels a b has_failed) (sym same) h

-- Looks and passes

-- The result of the looks so far.
abbrev pub Looked : ℕ → Bool → Option (List (ℕ × Life)) → Option (List (ℕ × Life)) → Type 0
Looked tab true a b = FoundDead tab a b
Looked tab false a b = LooksOnly tab a b

pub Looked-none : (tab : ℕ) (a : Option (List (ℕ × Life))) → Looked tab false a a
Looked-none tab a = ([], Grows-nil a)

-- One more look extends the record.
looks_more : (tab : ℕ) (a b c : Option (List (ℕ × Life))) (looks : List Life) (l : Life) → RecordGrows a b (at_tab tab looks) → RecordGrows b c ((tab, l) ∷ []) → RecordGrows a c (at_tab tab (looks ++ l ∷ []))
looks_more tab a b c looks l h k = subst (RecordGrows a c) (sym (map-append (λ (m : Life). (tab, m)) looks (l ∷ []))) (Grows-trans a b c (at_tab tab looks) ((tab, l) ∷ []) h k)

pub Looked-more : (tab : ℕ) (a b c : Option (List (ℕ × Life))) (was found : Bool) → was ≡ false → Looked tab was a b → FindsDead tab found b c → Looked tab found a c
Looked-more tab a b c true found is h f = absurd cc
Looked-more tab a b c false true is h f = (h.0, looks_more tab a b c h.0 life.Dead h.1 f)
Looked-more tab a b c false false is h f = (h.0 ++ f.0 ∷ [], looks_more tab a b c h.0 f.0 h.1 f.2)

pub same_pass : (p : Handed) → IsSamePass p p
same_pass p = record { queue = refl; pass = refl; role = refl; partition = refl; tab = refl }

pub same_then : (p q r : Handed) → IsSamePass p q → IsSamePass q r → IsSamePass p r
same_then p q r h k = record { queue = k.queue ∙ h.queue; pass = k.pass ∙ h.pass; role = k.role ∙ h.role; partition = k.partition ∙ h.partition; tab = k.tab ∙ h.tab }
