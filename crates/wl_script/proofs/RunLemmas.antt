-- Lemmas on playing lines, and on how a run ends.
use Rattle.std.proofs.Common.{◌≡◌, ℕ, ◌+◌, ◌≤◌, ◌<◌, true, false, List, [], ◌∷◌, ◌++◌, length, length-append, get_or, take, drop, take-append-drop, Option, Some, None, refl, sym, ap, subst, ◌∙◌, append_assoc, append-nil, arith}
use Rattle.std.specs.Prelude.{◌==◌}
use Rattle.std.proofs.lemmas.Bool.Decides.{nat_tests}
use Rattle.std.proofs.lemmas.List.{take_more, drop_more}
use Rattle.wl_world_model.specs.World.{WorldState}
use Rattle.wl_grammar.proofs.Prefixes.{IsPrefixOf-append, append-IsPrefixOf}
use Rattle.wl_script.specs.declared.sim_line.SimLine.{SimLine}
use Rattle.wl_script.specs.declared.sim.SimFault.{SimFault}
use Rattle.wl_script.specs.declared.sim.SimFault.TheVariants as sim
use Rattle.wl_script.specs.SimLines.{line_at}
use Rattle.wl_script.specs.Played.{played}
use Rattle.wl_script.specs.Sim.{Ran, goes, runs, lines_of}
use Rattle.wl_script.specs.SimSteps.{SimState, lines_after, EndsBy, Plays}
use Rattle.wl_script.proofs.Splits.{lines_more, lines_none, lines_feed, lines_byte, lines_go_on, long_line}

-- A run with earlier output put before its own.
abbrev pub before : List ℕ → Ran → Ran
before front r = record r { written = front ++ r.written }

-- A run followed by another one, unless the first ended with a syntax error.
abbrev onward : Option ℕ → Ran → Ran → Ran
onward None r next = before r.written next
onward (Some n) r next = r

before-nil : (r : Ran) → r ≡ before [] r
before-nil r = refl

before-onward : (front : List ℕ) (o : Option ℕ) (r next : Ran) → before front (onward o r next) ≡ onward o (before front r) next
before-onward front None r next = ap (λ l. record next { written = l }) (sym (append_assoc front r.written next.written))
before-onward front (Some n) r next = refl

goes-append : (n : ℕ) (w : WorldState) (o : Option SimLine) (texts more : List (List ℕ)) (m : ℕ)
    → ((after : WorldState) → runs (n + 1) after (texts ++ more) ≡ onward (runs (n + 1) after texts).refused (runs (n + 1) after texts) (runs m (runs (n + 1) after texts).world more))
    → goes n w o (λ after. runs (n + 1) after (texts ++ more))
    ≡ onward (goes n w o (λ after. runs (n + 1) after texts)).refused (goes n w o (λ after. runs (n + 1) after texts))
    (runs m (goes n w o (λ after. runs (n + 1) after texts)).world more)
goes-append n w None texts more m h = refl
goes-append n w (Some l) texts more m h =
    let p = played w l in
    let r = runs (n + 1) p.world texts in
    ap (before p.written) (h p.world) ∙ before-onward p.written r.refused r (runs m r.world more)

runs-append : (n : ℕ) (w : WorldState) (texts more : List (List ℕ))
    → runs n w (texts ++ more) ≡ onward (runs n w texts).refused (runs n w texts) (runs (n + length texts) (runs n w texts).world more)
runs-append n w [] more =
    let e : n ≡ n + 0 = omega arith in
    before-nil (runs n w more) ∙ ap (λ m. before [] (runs m w more)) e
runs-append n w (text ∷ texts) more =
    let e : n + 1 + length texts ≡ n + length (text ∷ texts) = omega arith in
    goes-append n w (line_at text) texts more (n + length (text ∷ texts))
    (λ after. runs-append (n + 1) after texts more ∙ ap (λ m. onward (runs (n + 1) after texts).refused (runs (n + 1) after texts) (runs m (runs (n + 1) after texts).world more)) e)

-- A run over lines that are all played continues with the lines after them.
pub runs-go : (n : ℕ) (w after : WorldState) (texts more : List (List ℕ)) (output : List ℕ) → runs n w texts ≡ record { world = after; written = output; refused = None }
    → runs n w (texts ++ more) ≡ before output (runs (n + length texts) after more)
runs-go n w after texts more output e =
    runs-append n w texts more ∙ ap (λ (r : Ran). onward r.refused r (runs (n + length texts) r.world more)) e

-- One line

pub runs-refused : (n : ℕ) (w : WorldState) (text : List ℕ) (texts : List (List ℕ)) → line_at text ≡ None
    → runs n w (text ∷ texts) ≡ record { world = w; written = []; refused = Some n }
runs-refused n w text texts e = ap (λ o. goes n w o (λ after. runs (n + 1) after texts)) e

-- How a run ends

EndsBy-onward : (r next : Ran) (o : Option ℕ) (e : SimFault) (output : List ℕ) → r.refused ≡ o → EndsBy r e output → EndsBy (onward o r next) e output
EndsBy-onward r next (Some m) e output is h = h
EndsBy-onward r next None (sim.Line n) output is h = absurd (let both : None ≡ Some n = sym is ∙ h.0 in cc)
EndsBy-onward r next None sim.Read output is h = h
EndsBy-onward r next None sim.Write output is h = IsPrefixOf-append output r.written next.written h
EndsBy-onward r next None sim.TooManyReads output is h = h
EndsBy-onward r next None sim.Memory output is h = IsPrefixOf-append output r.written next.written h

-- A run that ends early does not depend on the lines that follow.
EndsBy-more : (n : ℕ) (w : WorldState) (texts more : List (List ℕ)) (e : SimFault) (output : List ℕ) → EndsBy (runs n w texts) e output → EndsBy (runs n w (texts ++ more)) e output
EndsBy-more n w texts more e output h =
    subst (λ r. EndsBy r e output) (sym (runs-append n w texts more)) (EndsBy-onward (runs n w texts) _ (runs n w texts).refused e output refl h)

pub EndsBy-before : (front : List ℕ) (r : Ran) (e : SimFault) (output : List ℕ) → EndsBy r e output → EndsBy (before front r) e (front ++ output)
EndsBy-before front r (sim.Line n) output h = (h.0, ap (λ l. front ++ l) h.1)
EndsBy-before front r sim.Read output h = h
EndsBy-before front r sim.Write output h = append-IsPrefixOf front output r.written h
EndsBy-before front r sim.TooManyReads output h = h
EndsBy-before front r sim.Memory output h = append-IsPrefixOf front output r.written h

pub Ends-memory : (r : Ran) → EndsBy r sim.Memory []
Ends-memory r = (r.written, refl)

-- Pieces of a script

pub Plays-start : (s : SimState) → Plays s [] s []
Plays-start s = record {
  texts = [];
  lines_are = lines_none s.text;
  ran = refl;
  number_is = omega arith;
  within = omega arith;
}

pub Plays-more : (a b c : SimState) (piece more output next : List ℕ) → Plays a piece b output → Plays b more c next → Plays a (piece ++ more) c (output ++ next)
Plays-more a b c piece more output next h k =
    record {
      texts = h.texts ++ k.texts;
      lines_are = lines_more a.text piece more h.texts b.text h.lines_are ∙ ap (λ l. h.texts ++ l) k.lines_are ∙ sym (append_assoc h.texts k.texts (c.text ∷ []));
      ran =
          runs-go a.number a.world b.world h.texts k.texts output h.ran
          ∙ ap (before output) (ap (λ n. runs n b.world k.texts) (sym h.number_is) ∙ k.ran);
      number_is = omega (arith, h.number_is, k.number_is, length-append h.texts k.texts);
      within = omega (arith, h.within, k.within, length-append piece more);
    }

-- The run over a piece and later input is the piece's output followed by the later run.
pub runs-after : (a b : SimState) (piece more output : List ℕ) → Plays a piece b output
    → runs a.number a.world (lines_after a.text (piece ++ more)) ≡ before output (runs b.number b.world (lines_after b.text more))
runs-after a b piece more output h =
    ap (runs a.number a.world) (lines_more a.text piece more h.texts b.text h.lines_are)
    ∙ runs-go a.number a.world b.world h.texts (lines_after b.text more) output h.ran
    ∙ ap (λ n. before output (runs n b.world (lines_after b.text more))) (sym h.number_is)

pub Ends-after : (a b : SimState) (piece more output next : List ℕ) (e : SimFault) → Plays a piece b output → EndsBy (runs b.number b.world (lines_after b.text more)) e next
    → EndsBy (runs a.number a.world (lines_after a.text (piece ++ more))) e (output ++ next)
Ends-after a b piece more output next e h ends =
    subst (λ r. EndsBy r e (output ++ next)) (sym (runs-after a b piece more output h)) (EndsBy-before output (runs b.number b.world (lines_after b.text more)) e next ends)

-- One byte of a piece

pub Plays-feed : (s : SimState) (b : ℕ) (after : WorldState) (output : List ℕ) → (b == 10) ≡ true
    → runs s.number s.world (s.text ∷ []) ≡ record { world = after; written = output; refused = None }
    → Plays s (b ∷ []) (record { world = after; number = s.number + 1; text = [] }) output
Plays-feed s b after output feed ran = record {
  texts = s.text ∷ [];
  lines_are = lines_feed s.text b [] feed;
  ran = ran;
  number_is = omega arith;
  within = omega arith;
}

pub Plays-byte : (s : SimState) (b : ℕ) → (b == 10) ≡ false → Plays s (b ∷ []) (record s { text = s.text ++ b ∷ [] }) []
Plays-byte s b other = record {
  texts = [];
  lines_are = lines_byte s.text b other;
  ran = refl;
  number_is = omega arith;
  within = omega arith;
}

pub Ends-feed : (s : SimState) (b : ℕ) (more : List ℕ) (e : SimFault) (output : List ℕ) → (b == 10) ≡ true → EndsBy (runs s.number s.world (s.text ∷ [])) e output
    → EndsBy (runs s.number s.world (lines_after s.text (b ∷ more))) e output
Ends-feed s b more e output feed h =
    subst (λ texts. EndsBy (runs s.number s.world texts) e output) (sym (lines_feed s.text b more feed)) (EndsBy-more s.number s.world (s.text ∷ []) (lines_of more) e output h)

pub Ends-long : (s : SimState) (b : ℕ) (more : List ℕ) → (b == 10) ≡ false → 65536 ≤ length s.text
    → EndsBy (runs s.number s.world (lines_after s.text (b ∷ more))) (sim.Line s.number) []
Ends-long s b more other long =
    let on = lines_go_on s.text b more other in
    subst (λ r. EndsBy r (sim.Line s.number) [])
    (sym (ap (runs s.number s.world) on.lines_are ∙ runs-refused s.number s.world (s.text ++ b ∷ on.text) on.texts (long_line s.text b on.text long)))
    (refl, refl)

-- A byte of a piece, at its index

same_byte : (b : ℕ) → b ≡ 10 → (b == 10) ≡ true
same_byte b e = rw e refl

other_byte : (b : ℕ) → (b ≡ 10 → ⊥) → (b == 10) ≡ false
other_byte b h = grind (arith, nat_tests)

pub Plays-at-feed : (a s : SimState) (piece : List ℕ) (i : ℕ) (after : WorldState) (output last : List ℕ) → i < length piece → get_or piece i 0 ≡ 10
    → Plays a (take i piece) s output → runs s.number s.world (s.text ∷ []) ≡ record { world = after; written = last; refused = None }
    → Plays a (take (i + 1) piece) (record { world = after; number = s.number + 1; text = [] }) (output ++ last)
Plays-at-feed a s piece i after output last lt feed h ran =
    let new : SimState = record { world = after; number = s.number + 1; text = [] } in
    let b = get_or piece i 0 in
    subst (λ bytes. Plays a bytes new (output ++ last)) (sym (take_more piece i 0 lt))
    (Plays-more a s new (take i piece) (b ∷ []) output last h (Plays-feed s b after last (same_byte b feed) ran))

pub Plays-at-byte : (a s : SimState) (piece : List ℕ) (i : ℕ) (output : List ℕ) → i < length piece → (get_or piece i 0 ≡ 10 → ⊥) → Plays a (take i piece) s output
    → Plays a (take (i + 1) piece) (record s { text = s.text ++ get_or piece i 0 ∷ [] }) output
Plays-at-byte a s piece i output lt other h =
    let b = get_or piece i 0 in
    let new : SimState = record s { text = s.text ++ b ∷ [] } in
    subst (λ bytes. Plays a bytes new output) (sym (take_more piece i 0 lt))
    (subst (Plays a (take i piece ++ b ∷ []) new) (append-nil output) (Plays-more a s new (take i piece) (b ∷ []) output [] h (Plays-byte s b (other_byte b other))))

ends-at : (a s : SimState) (piece more : List ℕ) (i : ℕ) (output last : List ℕ) (e : SimFault) → i < length piece → Plays a (take i piece) s output
    → EndsBy (runs s.number s.world (lines_after s.text (get_or piece i 0 ∷ drop (i + 1) piece ++ more))) e last
    → EndsBy (runs a.number a.world (lines_after a.text (piece ++ more))) e (output ++ last)
ends-at a s piece more i output last e lt h ends =
    let rest = get_or piece i 0 ∷ drop (i + 1) piece in
    let all : take i piece ++ rest ≡ piece = ap (λ l. take i piece ++ l) (sym (drop_more piece i 0 lt)) ∙ take-append-drop i piece in
    subst (λ bytes. EndsBy (runs a.number a.world (lines_after a.text bytes)) e (output ++ last))
    (sym (append_assoc (take i piece) rest more) ∙ ap (λ l. l ++ more) all)
    (Ends-after a s (take i piece) (rest ++ more) output last e h ends)

pub Ends-at-feed : (a s : SimState) (piece more : List ℕ) (i : ℕ) (output last : List ℕ) (e : SimFault) → i < length piece → get_or piece i 0 ≡ 10 → Plays a (take i piece) s output
    → EndsBy (runs s.number s.world (s.text ∷ [])) e last → EndsBy (runs a.number a.world (lines_after a.text (piece ++ more))) e (output ++ last)
Ends-at-feed a s piece more i output last e lt feed h ends =
    ends-at a s piece more i output last e lt h (Ends-feed s (get_or piece i 0) (drop (i + 1) piece ++ more) e last (same_byte (get_or piece i 0) feed) ends)

pub Ends-at-long : (a s : SimState) (piece more : List ℕ) (i : ℕ) (output : List ℕ) → i < length piece → (get_or piece i 0 ≡ 10 → ⊥) → 65536 ≤ length s.text → Plays a (take i piece) s output
    → EndsBy (runs a.number a.world (lines_after a.text (piece ++ more))) (sim.Line s.number) (output ++ [])
Ends-at-long a s piece more i output lt other long h =
    ends-at a s piece more i output [] (sim.Line s.number) lt h (Ends-long s (get_or piece i 0) (drop (i + 1) piece ++ more) (other_byte (get_or piece i 0) other) long)

pub Ends-at-memory : (a s : SimState) (piece more : List ℕ) (i : ℕ) (output : List ℕ) → i < length piece → Plays a (take i piece) s output
    → EndsBy (runs a.number a.world (lines_after a.text (piece ++ more))) sim.Memory (output ++ [])
Ends-at-memory a s piece more i output lt h =
    ends-at a s piece more i output [] sim.Memory lt h (Ends-memory (runs s.number s.world (lines_after s.text (get_or piece i 0 ∷ drop (i + 1) piece ++ more))))
