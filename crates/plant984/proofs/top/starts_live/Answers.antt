use Rattle.std.proofs.Common.{List, String, Global, map, string_bytes, sym, subst, ◌∙◌, ◌↔◌}
use Rattle.std.specs.Prelude.{IsTrue}
use Rattle.plant984.specs.Promise.{StartsLive}
use Rattle.plant984.proofs.FirstWord.{first-rest}
use Rattle.plant984.proofs.top.starts_live.Goals as goal

pub returns-in-len1-up : goal.returns-in-len1-up
returns-in-len1-up c =
    let words = c.args.words.now in
    let P : List (String Global) → Type 0 =
    λ ws. IsTrue c.is_live.result ↔ StartsLive (map string_bytes ws) in
    let split = first-rest words c.name-item.result c.in-len1-up.len_at_least c.name-item.is in
    subst P (sym split) (
      λ is. sym c.as_str.ensures.value ∙ c.is_live.ensures.0 is,
      λ named. c.is_live.ensures.1 (c.as_str.ensures.value ∙ named),
    )
