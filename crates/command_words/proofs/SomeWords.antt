-- Plain words are some words, each of them plain.
use Rattle.command_words.proofs.Names.{◌≡◌, false, List, [], ◌∷◌, map, length, nat_eq, sym, String, string_bytes, list_all, is_plain, are_plain}
use Rattle.std.specs.Global.{Global}
use Rattle.std.proofs.lemmas.List.Folds.{list_all-map}

pub plain_where_some : (words : List (String Global)) → nat_eq (length words) 0 ≡ false
    → list_all (λ word. is_plain (string_bytes word)) words ≡ are_plain (map string_bytes words)
plain_where_some [] some = absurd cc
plain_where_some (word ∷ words) some = sym (list_all-map is_plain string_bytes (word ∷ words))
