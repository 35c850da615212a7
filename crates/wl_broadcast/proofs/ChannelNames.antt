-- Lemmas on names: each object has a valid channel name after every change.
use Rattle.std.proofs.Common.{◌≡◌, ℕ, zero, suc, ◌+◌, ◌<◌, List, [], ◌∷◌, ◌++◌, length, Option, subst, sym, arith}
use Rattle.wl_grammar.specs.Grammar.{IsChannel}
use Rattle.wl_broadcast.specs.declared.letter.Letter.{Letter}
use Rattle.wl_broadcast.specs.Channels.{Object, new_object, delivered_from, changed_at, name_at}
use Rattle.wl_broadcast.specs.OpenObjects.{AreChannels}
use Rattle.wl_broadcast.proofs.Numbered.{name_at-suc, changed_at-suc}
use Rattle.wl_broadcast.proofs.Gained.{delivered_name}

pub names_opened : (os : List Object) (name : List ℕ) → AreChannels os → IsChannel name → AreChannels (os ++ new_object name ∷ [])
names_opened [] name names one = (one, tt)
names_opened (o ∷ os) name names one = (names.0, names_opened os name names.1 one)

pub names_delivered : (k : ℕ) (sender : Option ℕ) (name : List ℕ) (letter : Letter) (os : List Object) → AreChannels os → AreChannels (delivered_from k sender name letter os)
names_delivered k sender name letter [] names = tt
names_delivered k sender name letter (o ∷ os) names =
    (subst IsChannel (sym (delivered_name sender name letter k o)) names.0, names_delivered (k + 1) sender name letter os names.1)

pub names_changed : (f : Object → Object) → ((o : Object) → (f o).name ≡ o.name) → (j : ℕ) (os : List Object) → AreChannels os → AreChannels (changed_at j f os)
names_changed f same j [] names = tt
names_changed f same zero (o ∷ os) names = (subst IsChannel (sym (same o)) names.0, names.1)
names_changed f same (suc j) (o ∷ os) names = subst AreChannels (sym (changed_at-suc f o os j)) (names.0, names_changed f same j os names.1)

pub name_of : (os : List Object) (k : ℕ) → AreChannels os → k < length os → IsChannel (name_at os k)
name_of [] k names below = absurd (omega arith)
name_of (o ∷ os) zero names below = names.0
name_of (o ∷ os) (suc k) names below = subst IsChannel (sym (name_at-suc o os k)) (name_of os k names.1 (omega arith))
