-- For the law on a server's store: no context is taken more often than it was there or was put.
use Rattle.std.proofs.Common.{◌≡◌, ℕ, ◌+◌, ◌≤◌, Bool, true, false, cond, List, [], ◌∷◌, ◌++◌, Option, None, Some, refl, arith}
use Rattle.std.specs.Prelude.{count_by}
use Rattle.std.specs.Str.{bytes_eq}
use Rattle.std.specs.Option.{option_to_list}
use Rattle.std.proofs.lemmas.List.Sums.{sum_by-append}
use Rattle.auc_hmac.specs.declared.method.Method.TheVariants as methods
use Rattle.auc_ident.specs.Permanent.{username}
use Rattle.auc_reauth.specs.Server.{Contexts, if_named, unless_named}
use Rattle.auc_reauth.specs.Laws.{ServerCall, Take, Put, contexts_after, taken_by, put_by, taken, put, held, ContextsAreTakenOnce}
use Rattle.auc_reauth.specs.declared.context.Context.{Context}

module _ (test : Context → Bool) where
  count : List Context → ℕ
  count cs = count_by test cs

  count-append : (xs ys : List Context) → count (xs ++ ys) ≡ count xs + count ys
  unfolding count
  count-append xs ys = sum_by-append (λ c. cond (test c) 1 0) xs ys

  count-nil : count [] ≡ 0
  unfolding count
  count-nil = refl

  kept_count : Option Context → ℕ
  kept_count kept = count (option_to_list kept)

  no_count : kept_count None ≡ 0
  unfolding kept_count
  no_count = count-nil

  -- a context is either taken or left
  of_test : (b : Bool) (c : Context) → kept_count (cond b (Some c) None) + kept_count (cond b None (Some c)) ≡ kept_count (Some c)
  of_test true c = omega (arith, no_count)
  of_test false c = omega (arith, no_count)

  taken_or_left : (name : List ℕ) (kept : Option Context) → kept_count (if_named name kept) + kept_count (unless_named name kept) ≡ kept_count kept
  taken_or_left name None = omega (arith, no_count)
  taken_or_left name (Some c) = of_test (bytes_eq c.identity name) c

  held_count : (contexts : Contexts) → count (held contexts) ≡ kept_count contexts.aka + kept_count contexts.prime
  unfolding kept_count
  held_count contexts = count-append (option_to_list contexts.aka) (option_to_list contexts.prime)

  put_count : (c : Context) → count (c ∷ []) ≡ kept_count (Some c)
  unfolding kept_count
  put_count c = refl

  taken_count : (kept : Option Context) → count (option_to_list kept) ≡ kept_count kept
  unfolding kept_count
  taken_count kept = refl

  -- one call takes no more than it finds or puts
  one_call : (contexts : Contexts) (call : ServerCall)
      → count (taken_by call contexts) + count (held (contexts_after call contexts)) ≤ count (held contexts) + count (put_by call)
  one_call contexts (Take methods.Aka identity) =
      omega (
        arith,
        count-nil,
        taken_count (if_named (username identity) contexts.aka),
        taken_or_left (username identity) contexts.aka,
        held_count contexts,
        held_count (contexts_after (Take methods.Aka identity) contexts),
      )
  one_call contexts (Take methods.Prime identity) =
      omega (
        arith,
        count-nil,
        taken_count (if_named (username identity) contexts.prime),
        taken_or_left (username identity) contexts.prime,
        held_count contexts,
        held_count (contexts_after (Take methods.Prime identity) contexts),
      )
  one_call contexts (Put methods.Aka c) =
      omega (arith, count-nil, put_count c, held_count contexts, held_count (contexts_after (Put methods.Aka c) contexts))
  one_call contexts (Put methods.Prime c) =
      omega (arith, count-nil, put_count c, held_count contexts, held_count (contexts_after (Put methods.Prime c) contexts))

  -- and so do many
  many_calls : (contexts : Contexts) (calls : List ServerCall) → count (taken contexts calls) ≤ count (held contexts) + count (put calls)
  many_calls contexts [] = omega (arith, count-nil)
  many_calls contexts (call ∷ calls) =
      omega (
        arith,
        one_call contexts call,
        many_calls (contexts_after call contexts) calls,
        count-append (taken_by call contexts) (taken (contexts_after call contexts) calls),
        count-append (put_by call) (put calls),
      )

  counted : (contexts : Contexts) (calls : List ServerCall) → count_by test (taken contexts calls) ≤ count_by test (held contexts) + count_by test (put calls)
  unfolding count
  counted contexts calls = many_calls contexts calls

pub contexts_are_taken_once : ContextsAreTakenOnce
contexts_are_taken_once test contexts calls = counted test contexts calls
