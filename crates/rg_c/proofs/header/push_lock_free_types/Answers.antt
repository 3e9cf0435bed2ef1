use Rattle.std.proofs.Common.{◌++◌, codes, string_bytes}
use Rattle.rg_c.specs.Headers.{lock_free_text, lock_free_texts}
use Rattle.rg_c.proofs.TextParts.{pushed_then}
use Rattle.rg_c.proofs.header.push_lock_free_types.Goals as goal

pub returns : goal.returns
unfolding lock_free_texts
returns c =
    let words = c.args.layout.now in
    let kinds = c.args.kinds.now in
    let char = lock_free_text words kinds 8 (codes "ATOMIC_CHAR_LOCK_FREE == 2") in
    let short = lock_free_text words kinds 16 (codes "ATOMIC_SHORT_LOCK_FREE == 2") in
    let int = lock_free_text words kinds 32 (codes "ATOMIC_INT_LOCK_FREE == 2 && ATOMIC_LONG_LOCK_FREE == 2") in
    let long = lock_free_text words kinds 64 (codes "ATOMIC_LLONG_LOCK_FREE == 2") in
    pushed_then (string_bytes c.args.text.now) char (short ++ (int ++ long)) _ _ c.in_ok-push_lock_free.ensures
    (pushed_then _ short (int ++ long) _ _ c.in_ok-push_lock_free-2.ensures
    (pushed_then _ int long _ _ c.in_ok-push_lock_free-3.ensures c.in_ok-push_lock_free-4.ensures))
