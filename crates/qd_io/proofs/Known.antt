-- Known bytes through several calls.
use Rattle.std.proofs.Common.{◌≡◌, ℕ, ◌+◌, ◌≤◌, List, ◌++◌, length, take, arith, length-append, Option, Some, None, sym, ap, ◌∙◌, append_assoc}
use Rattle.std.specs.Prelude.{Result, Ok}
use Rattle.std.proofs.Common.{drop, length-drop}
use Rattle.std.proofs.lemmas.List.{length-take, take-append-drop}
use Rattle.std.specs.Io.KnownBytes.{Consumes, Appends}
use Rattle.qd_io.specs.Stream.{HasRoom, KeepsRoom}
use Rattle.qd_io.specs.declared.source.Failed.{Failed}

-- what two reads take, one after the other
pub Consumes-then : (start middle end : Option (List ℕ)) (first second : List ℕ) → Consumes start middle first → Consumes middle end second → Consumes start end (first ++ second)
Consumes-then None middle end first second a b = tt
Consumes-then (Some x) None end first second a b = absurd a
Consumes-then (Some x) (Some y) None first second a b = absurd b
Consumes-then (Some x) (Some y) (Some z) first second a b = a ∙ ap (λ rest. first ++ rest) b ∙ sym (append_assoc first second z)

-- what two writes add, one after the other
pub Appends-then : (start middle end : Option (List ℕ)) (first second : List ℕ) → Appends start middle first → Appends middle end second → Appends start end (first ++ second)
Appends-then None middle end first second a b = tt
Appends-then (Some x) None end first second a b = absurd a
Appends-then (Some x) (Some y) None first second a b = absurd b
Appends-then (Some x) (Some y) (Some z) first second a b = b ∙ ap (λ front. front ++ second) a ∙ append_assoc x first second

pub length-with_chunk : (items chunk : List ℕ) (count : ℕ) → count ≤ length chunk → length (items ++ take count chunk) ≡ length items + count
length-with_chunk items chunk count within = omega (arith, length-append items (take count chunk), length-take count chunk)

-- a text of which a front is written, and the rest still to write
pub record IsWrittenUpTo (start now : Option (List ℕ)) (text rest : List ℕ) : Type 0 where
  pub front : List ℕ
  pub parts : text ≡ front ++ rest
  pub added : Appends start now front

pub writes_more : (start middle end : Option (List ℕ)) (text rest : List ℕ) (taken : ℕ) → IsWrittenUpTo start middle text rest → Appends middle end (take taken rest)
    → IsWrittenUpTo start end text (drop taken rest)
writes_more start middle end text rest taken so_far now = record {
  front = so_far.front ++ take taken rest;
  parts = so_far.parts ∙ ap (λ (r : List ℕ). so_far.front ++ r) (sym (take-append-drop taken rest)) ∙ sym (append_assoc so_far.front (take taken rest) (drop taken rest));
  added = Appends-then start middle end so_far.front (take taken rest) so_far.added now;
}

abbrev taken_of : ℕ → Result ℕ Failed
taken_of taken = Ok taken

-- the room that is promised still serves, where so much of the rest was taken
pub room_serves : (before middle after : Option ℕ) (text rest : List ℕ) (taken : ℕ) → taken ≤ length rest → (HasRoom before text → HasRoom middle rest)
    → KeepsRoom middle after (taken_of taken) rest → HasRoom before text → HasRoom after (drop taken rest)
room_serves before None after text rest taken within so_far keeps has = absurd (so_far has)
room_serves before (Some room) after text rest taken within so_far keeps has =
    rw (keeps (so_far has)) (let fits : length rest ≤ room = so_far has in omega (arith, length-drop taken rest))
