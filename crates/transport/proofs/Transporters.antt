-- What a full character is by every element that carries the representative of its class.
use Rattle.transport.proofs.Names.{◌≡◌, ℕ, ◌<◌, false, ◌==◌, sym, ap, ◌∙◌, class_of, transporter_of, value_nought, CyclotomicValue, where_so, SimplesOver, count, class_at, AreSimples, carried_value, full_character, IsElement, Commute, IsByEachTransporter}
use Rattle.transport.proofs.CharacterLaws.{transporters_agree}

pub by_each_transporter : (k : ℕ) (s : SimplesOver) → AreSimples k s → (i g x : ℕ) → i < count k s → IsElement s g → IsElement s x → Commute s.cocycle.group g x
    → (u : CyclotomicValue k) → u ≡ (full_character k s i g x).value → IsByEachTransporter k s i g x u
by_each_transporter k s S i g x i_below g_below x_below commutes u same = record {
  carried = λ c c_below carries. same ∙ transporters_agree k s S i g x c i_below g_below x_below c_below commutes carries;
}

-- elsewhere than in its class it is 0
pub nought_elsewhere : (k : ℕ) (s : SimplesOver) (i g x : ℕ) (u : CyclotomicValue k) → (class_of s.cocycle.group g == class_at k s i) ≡ false → u ≡ value_nought
    → u ≡ (full_character k s i g x).value
nought_elsewhere k s i g x u other nought = nought ∙ sym (ap (λ b. (where_so k b (carried_value k s i g x (transporter_of s.cocycle.group g))).value) other)
