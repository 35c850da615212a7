-- Proofs of the laws of the Hello owed to a tab.
use Rattle.std.proofs.Common.{◌≡◌, ◌≤◌, ℕ, Bool, true, false, nat_lt, List, [], ◌∷◌, ◌++◌, Option, Some, None, if◌then◌else◌, ◌⊎◌, inl, inr, refl, sym, ap, subst, arith}
use Rattle.std.proofs.lemmas.Bool.Decides.{nat_tests}
use Rattle.wl_process_rules.specs.OwedHello.{refused, settled, Told, Refused, Put, told, after, Every, leaves, IsMissing, IsOwed, OwesWhatIsMissing, OwesTheLatest, OwesTheLast}

one_more : (g : ℕ) (t : Told) (ts : List Told) → IsMissing g ts → IsMissing g (t ∷ ts)
one_more g t ts m = record { before = t ∷ m.before; later = m.later; split = ap (λ xs. t ∷ xs) m.split; still = m.still }

-- A Hello that is owed was owed at the start and has not been settled, or is missing since.
pub data Owes (g : ℕ) (ts : List Told) (o : Option ℕ) : Type 0 where
  Since : IsMissing g ts → Owes g ts o
  Still : Every (leaves g) ts → o ≡ Some g → Owes g ts o

some : {a b : ℕ} → ◌≡◌ {A = Option ℕ} (Some a) (Some b) → a ≡ b
some {a} {b} e = cc

kept_or_new : (b : Bool) (k h g : ℕ) → (if b then Some h else Some k) ≡ Some g → (h ≡ g) ⊎ (k ≡ g)
kept_or_new true k h g e = inl (some e)
kept_or_new false k h g e = inr (some e)

refused_from : (g h : ℕ) (ts : List Told) (o : Option ℕ) → refused h o ≡ Some g → Every (leaves g) ts → Owes g (Refused h ∷ ts) o
refused_from g h ts None e n = Since (record { before = []; later = ts; split = ap (λ k. Refused k ∷ ts) (some e); still = n })
refused_from g h ts (Some k) e n = elim (kept_or_new (nat_lt k h) k h g e) [
  | inl is ↦ Since (record { before = []; later = ts; split = ap (λ x. Refused x ∷ ts) is; still = n })
  | inr is ↦ Still (refl, n) (ap Some is)
]

kept : (b : Bool) (k g : ℕ) → (if b then Some k else None) ≡ Some g → (b ≡ true) × (k ≡ g)
kept true k g e = (refl, some e)
kept false k g e = cc

settled_from : (g h : ℕ) (ts : List Told) (o : Option ℕ) → settled h o ≡ Some g → Every (leaves g) ts → Owes g (Put h ∷ ts) o
settled_from g h ts None e n = cc
settled_from g h ts (Some k) e n =
    let both = kept (nat_lt h k) k g e in
    Still (subst (λ x. nat_lt h x ≡ true) both.1 both.0, n) (ap Some both.1)

owes_more : (g : ℕ) (t : Told) (ts : List Told) (o : Option ℕ) → Owes g ts (told t o) → Owes g (t ∷ ts) o
owes_more g t ts o (Since m) = Since (one_more g t ts m)
owes_more g (Refused h) ts o (Still n e) = refused_from g h ts o e n
owes_more g (Put h) ts o (Still n e) = settled_from g h ts o e n

owes : (g : ℕ) (ts : List Told) (o : Option ℕ) → after ts o ≡ Some g → Owes g ts o
owes g [] o e = Still tt e
owes g (t ∷ ts) o e = owes_more g t ts o (owes g ts (told t o) e)

missing : (g : ℕ) (ts : List Told) → Owes g ts None → IsMissing g ts
missing g ts (Since m) = m
missing g ts (Still n e) = cc

pub owes_what_is_missing : OwesWhatIsMissing
owes_what_is_missing ts g e = missing g ts (owes g ts None e)

-- A missing Hello is owed

newer : (b : Bool) (k h g : ℕ) → nat_lt k h ≡ b → g ≤ k → IsOwed g (if b then Some h else Some k)
newer true k h g is up = (h, refl, grind (arith, nat_tests))
newer false k h g is up = (k, refl, up)

refused_owes : (g h : ℕ) (o : Option ℕ) → IsOwed g o → IsOwed g (refused h o)
refused_owes g h None up = cc
refused_owes g h (Some k) up = newer (nat_lt k h) k h g refl (subst (λ x. g ≤ x) (sym (some up.1)) up.2)

later : (b : Bool) (k h g : ℕ) → nat_lt h k ≡ b → nat_lt h g ≡ true → g ≤ k → IsOwed g (if b then Some k else None)
later true k h g is before up = (k, refl, up)
later false k h g is before up = absurd (grind (arith, nat_tests))

settled_owes : (g h : ℕ) (o : Option ℕ) → nat_lt h g ≡ true → IsOwed g o → IsOwed g (settled h o)
settled_owes g h None before up = cc
settled_owes g h (Some k) before up = later (nat_lt h k) k h g refl before (subst (λ x. g ≤ x) (sym (some up.1)) up.2)

stays_owed : (g : ℕ) (ts : List Told) (o : Option ℕ) → IsOwed g o → Every (leaves g) ts → IsOwed g (after ts o)
stays_owed g [] o up n = up
stays_owed g (Refused h ∷ ts) o up n = stays_owed g ts (refused h o) (refused_owes g h o up) n.1
stays_owed g (Put h ∷ ts) o up n = stays_owed g ts (settled h o) (settled_owes g h o n.0 up) n.1

after-append : (ts us : List Told) (o : Option ℕ) → after (ts ++ us) o ≡ after us (after ts o)
after-append [] us o = refl
after-append (t ∷ ts) us o = after-append ts us (told t o)

chosen : (b : Bool) (k g : ℕ) → nat_lt k g ≡ b → IsOwed g (if b then Some g else Some k)
chosen true k g is = (g, refl, omega arith)
chosen false k g is = (k, refl, grind (arith, nat_tests))

refused_is_owed : (g : ℕ) (o : Option ℕ) → IsOwed g (refused g o)
refused_is_owed g None = (g, refl, omega arith)
refused_is_owed g (Some k) = chosen (nat_lt k g) k g refl

owed_since : (g : ℕ) (before later : List Told) → Every (leaves g) later → IsOwed g (after (before ++ Refused g ∷ later) None)
owed_since g before later n =
    subst (IsOwed g) (sym (after-append before (Refused g ∷ later) None)) (stays_owed g later (refused g (after before None)) (refused_is_owed g (after before None)) n)

pub owes_the_latest : OwesTheLatest
owes_the_latest ts g m = subst (λ xs. IsOwed g (after xs None)) (sym m.split) (owed_since g m.before m.later m.still)

pub owes_the_last : OwesTheLast
owes_the_last ts g = owed_since g ts [] tt
